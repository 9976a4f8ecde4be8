-- What the measured children of a widget ask for is what the definitions say that its children ask for, in whatever order.
use Rattle.std.proofs.Common.{◌≡◌, ℕ, zero, suc, ◌<◌, ◌≤◌, ◌==◌, max, Bool, true, false, cond, ◌&&◌, nat_eq, eq-eqb, List, [], ◌∷◌, length, map, get_or, slice_get, Option, Some, refl, sym, ap, ◌∙◌, arith, if◌then◌else◌}
use Rattle.std.specs.List.{filter}
use Rattle.std.specs.Option.{option_and_then}
use Rattle.kind_core.specs.declared.shapes.Cell.{Cell}
use Rattle.widget_model.specs.Rows.{Row}
use Rattle.widget_model.specs.Nodes.{id_named}
use Rattle.widget_model.specs.Trees.{is_child}
use Rattle.widget_model.specs.Widgets.{Widgets, rows_of, nodes, IsLive}
use Rattle.widget_model.specs.Forest.{IsWidgets}
use Rattle.widget_model.specs.Relatives.{parent_id}
use Rattle.widget_model.proofs.Naming.{id_named-row}
use Rattle.tree_core.proofs.Listed.{listed_number, numbered_place}
use Rattle.scene_model.specs.declared.axis.Axis.{Axis}
use Rattle.scene_model.specs.declared.axis.Axis.TheVariants.{Across, Down}
use Rattle.scene_model.specs.Tracks.{Need, greatest, asked_in, last_asked, need_of, children_of}
use Rattle.scene_model.specs.Least.{least_of}
use Rattle.scene_model.proofs.Lists.{All-map-filter, greatest-most}
use Rattle.scene_model.proofs.Parents.{IsChildOf-is_child}
use Rattle.std.proofs.lemmas.Slice.Eq.{bytes_eq-Decides}
use Rattle.std.specs.Str.{bytes_eq}
use Rattle.std.specs.Option.{option_map_or}
use Rattle.std.proofs.lemmas.List.Elements.{All-map}
use Rattle.std.proofs.Math.Nat.{le_antisymm}
use Rattle.scene_core.specs.declared.child.Child.{Child}
use Rattle.scene_core.specs.Measured.{need_seen, needs_seen}
use Rattle.scene_core.specs.Children.{row_for, child_for, needs_for, AreChildren}
use Rattle.scene_core.proofs.Numbered.{row_for-there, live-there}
use Rattle.scene_core.proofs.ChildNumbers.{parent_id-found}

-- what a need asks for in one track
room_in : ℕ → Need → ℕ
room_in track need = if need.track == track then need.room else 0

zero-max : (n : ℕ) → max 0 n ≡ n
zero-max n = omega arith

asked_in-rooms : (needs : List Need) (track : ℕ) → asked_in needs track ≡ greatest (map (room_in track) needs)
unfolding room_in
asked_in-rooms [] track = refl
asked_in-rooms (need ∷ needs) track = by (need.track == track) (asked_in-rooms needs track)
  where
    by : (b : Bool) → asked_in needs track ≡ greatest (map (room_in track) needs) → greatest (map (λ (n : Need). n.room) (cond b (need ∷ filter (λ (n : Need). n.track == track) needs) (filter (λ (n : Need). n.track == track) needs))) ≡ max (if b then need.room else 0) (greatest (map (room_in track) needs))
    by true e = ap (max need.room) e
    by false e = e ∙ sym (zero-max (greatest (map (room_in track) needs)))

pub map-twice : {X Y Z : Type 0} (f : Y → Z) (g : X → Y) (xs : List X) → map f (map g xs) ≡ map (λ x. f (g x)) xs
map-twice f g [] = refl
map-twice {X} {Y} {Z} f g (x ∷ xs) = ap (λ (zs : List Z). f (g x) ∷ zs) (map-twice f g xs)

-- an element's number is at most the greatest
le-greatest : {X : Type 0} (f : X → ℕ) (xs : List X) (k : ℕ) (d : X) → k < length xs → f (get_or xs k d) ≤ greatest (map f xs)
le-greatest f [] k d h = absurd (omega arith)
le-greatest f (x ∷ xs) zero d h = omega arith
le-greatest f (x ∷ xs) (suc k) d h = let rest = le-greatest f xs k d (omega arith) in omega arith

pub le-greatest-filter : {X : Type 0} (f : X → ℕ) (p : X → Bool) (xs : List X) (i : ℕ) (x : X) → slice_get xs i ≡ Some x → p x ≡ true → f x ≤ greatest (map f (filter p xs))
le-greatest-filter f p [] i x there passes = absurd (cc)
le-greatest-filter {X} f p (y ∷ ys) zero x there passes =
    let same : y ≡ x = cc in
    let first : p y ≡ true = ap p same ∙ passes in
    let e : f y ≡ f x = ap f same in
    rw first (let m = le-first (f y) (greatest (map f (filter p ys))) in omega arith)
  where
    le-first : (a b : ℕ) → a ≤ max a b
    le-first a b = omega arith
le-greatest-filter {X} f p (y ∷ ys) (suc i) x there passes = by (p y) (le-greatest-filter f p ys i x there passes)
  where
    by : (b : Bool) → f x ≤ greatest (map f (filter p ys)) → f x ≤ greatest (map f (cond b (y ∷ filter p ys) (filter p ys)))
    by true h = omega arith
    by false h = h

-- a measured child asks for what its row does
need-same : (axis : Axis) (widgets : Widgets) (key : ℕ) → need_seen axis (child_for widgets key) ≡ need_of (least_of (rows_of widgets) axis) axis (row_for widgets key)
need-same Across widgets key = refl
need-same Down widgets key = refl

is_child-attached : (client : ℕ) (name : List ℕ) (child : Row) (cell : Cell) → child.client ≡ client → child.attached ≡ Some (name, cell) → is_child client name child ≡ true
is_child-attached client name child cell owner attached =
    let own : nat_eq client child.client ≡ true = eq-eqb client child.client (sym owner) in
    ap (λ (b : Bool). b && option_map_or (λ (hung : List ℕ × Cell). bytes_eq name hung.0) child.attached false) own
    ∙ ap (λ (o : Option (List ℕ × Cell)). option_map_or (λ (hung : List ℕ × Cell). bytes_eq name hung.0) o false) attached
    ∙ (bytes_eq-Decides name name).1 refl

-- the row of a child is a child's row
pub record IsChildAt (widgets : Widgets) (id key : ℕ) : Type 0 where
  pub index : ℕ
  pub there : slice_get (rows_of widgets) index ≡ Some (row_for widgets key)
  pub is : is_child (row_for widgets id).client (row_for widgets id).name (row_for widgets key) ≡ true

pub child-at : (widgets : Widgets) (id key : ℕ) → IsWidgets widgets → parent_id widgets key ≡ Some id → IsChildAt widgets id key
child-at widgets id key valid parent =
    let f = parent_id-found widgets id key valid parent in
    let place = numbered_place widgets.entries key f.lower f.lower_there in
    let lower = row_for-there widgets key f.lower f.lower_there in
    let upper = row_for-there widgets id f.upper f.upper_there in
    record {
      index = place.0;
      there = place.1 ∙ ap (λ (row : Row). Some row) (sym lower);
      is = ap (λ (row : Row). is_child (row_for widgets id).client (row_for widgets id).name row) lower
          ∙ ap (λ (row : Row). is_child row.client row.name f.lower) upper
          ∙ is_child-attached f.upper.client f.upper.name f.lower f.cell f.owner f.attached;
    }

-- a child's row is the row of a child
pub child-number : (widgets : Widgets) (id i : ℕ) (row : Row) → IsWidgets widgets → IsLive widgets id → slice_get (rows_of widgets) i ≡ Some row
    → is_child (row_for widgets id).client (row_for widgets id).name row ≡ true → (key : ℕ) × (row_for widgets key ≡ row) × (parent_id widgets key ≡ Some id)
child-number widgets id i row valid live there is =
    let number = listed_number widgets.entries i row valid.numbered.own_numbers there in
    let of = IsChildOf-is_child (row_for widgets id).client (row_for widgets id).name row is in
    let own : id_named (nodes widgets.entries) (row_for widgets id).client (row_for widgets id).name ≡ Some id = id_named-row widgets.entries id (row_for widgets id) valid.rows.names (live-there widgets id live) in (
      number.0,
      row_for-there widgets number.0 row number.1,
      ap (option_and_then (λ (row : Row). option_and_then (λ (attached : List ℕ × Cell). id_named (nodes widgets.entries) row.client attached.0) row.attached)) number.1
          ∙ ap (option_and_then (λ (attached : List ℕ × Cell). id_named (nodes widgets.entries) row.client attached.0)) of.attached
          ∙ ap (λ (client : ℕ). id_named (nodes widgets.entries) client (row_for widgets id).name) of.owner
          ∙ own,
    )

-- the greatest of a number of each child, asked of the measured children or of the rows
greatest-children : (axis : Axis) (f : Need → ℕ) (widgets : Widgets) (id : ℕ) (keys : List ℕ) → IsWidgets widgets → IsLive widgets id → AreChildren widgets id keys
    → greatest (map f (needs_seen axis (map (child_for widgets) keys))) ≡ greatest (map f (needs_for axis widgets id))
greatest-children axis f widgets id keys valid live kids =
    ap greatest (map-twice f (need_seen axis) (map (child_for widgets) keys) ∙ map-twice (λ (child : Child). f (need_seen axis child)) (child_for widgets) keys)
    ∙ le_antisymm below above
    ∙ ap greatest (sym (map-twice f need (children_of (rows_of widgets) (row_for widgets id))))
  where
    need : Row → Need
    need row = need_of (least_of (rows_of widgets) axis) axis row

    seen : ℕ → ℕ
    seen key = f (need_seen axis (child_for widgets key))

    asks : Row → ℕ
    asks row = f (need_of (least_of (rows_of widgets) axis) axis row)

    below : greatest (map (λ (key : ℕ). f (need_seen axis (child_for widgets key))) keys) ≤ greatest (map (λ (row : Row). f (need_of (least_of (rows_of widgets) axis) axis row)) (children_of (rows_of widgets) (row_for widgets id)))
    below = greatest-most _ (map seen keys) (All-map (λ (n : ℕ). n ≤ greatest (map asks (children_of (rows_of widgets) (row_for widgets id)))) seen keys each)
      where
        each : (k : ℕ) (d : ℕ) → k < length keys → f (need_seen axis (child_for widgets (get_or keys k d))) ≤ greatest (map (λ (row : Row). f (need_of (least_of (rows_of widgets) axis) axis row)) (children_of (rows_of widgets) (row_for widgets id)))
        each k d less =
            let key = get_or keys k d in
            let at = child-at widgets id key valid (kids.each k d less) in
            let bound = le-greatest-filter (λ (row : Row). f (need_of (least_of (rows_of widgets) axis) axis row)) (is_child (row_for widgets id).client (row_for widgets id).name) (rows_of widgets) at.index (row_for widgets key) at.there at.is in
            rw (need-same axis widgets key) bound

    above : greatest (map (λ (row : Row). f (need_of (least_of (rows_of widgets) axis) axis row)) (children_of (rows_of widgets) (row_for widgets id))) ≤ greatest (map (λ (key : ℕ). f (need_seen axis (child_for widgets key))) keys)
    above = greatest-most _ (map asks (children_of (rows_of widgets) (row_for widgets id)))
        (All-map-filter (λ (n : ℕ). n ≤ greatest (map seen keys)) asks (is_child (row_for widgets id).client (row_for widgets id).name) (rows_of widgets) each)
      where
        each : (i : ℕ) (row : Row) → slice_get (rows_of widgets) i ≡ Some row → is_child (row_for widgets id).client (row_for widgets id).name row ≡ true → f (need_of (least_of (rows_of widgets) axis) axis row) ≤ greatest (map (λ (key : ℕ). f (need_seen axis (child_for widgets key))) keys)
        each i row there is =
            let number = child-number widgets id i row valid live there is in
            let in_keys = kids.all number.0 number.2 in
            let bound = le-greatest (λ (key : ℕ). f (need_seen axis (child_for widgets key))) keys in_keys.0 number.0 in_keys.1 in
            let e : f (need_seen axis (child_for widgets (get_or keys in_keys.0 number.0))) ≡ f (need_of (least_of (rows_of widgets) axis) axis row) =
            ap (λ (key : ℕ). f (need_seen axis (child_for widgets key))) in_keys.2 ∙ ap f (need-same axis widgets number.0) ∙ ap (λ (r : Row). f (need_of (least_of (rows_of widgets) axis) axis r)) number.1 in
            rw (← e) bound

pub asked-children : (axis : Axis) (widgets : Widgets) (id : ℕ) (keys : List ℕ) (track : ℕ) → IsWidgets widgets → IsLive widgets id → AreChildren widgets id keys
    → asked_in (needs_seen axis (map (child_for widgets) keys)) track ≡ asked_in (needs_for axis widgets id) track
asked-children axis widgets id keys track valid live kids =
    asked_in-rooms (needs_seen axis (map (child_for widgets) keys)) track
    ∙ greatest-children axis (room_in track) widgets id keys valid live kids
    ∙ sym (asked_in-rooms (needs_for axis widgets id) track)

pub last-children : (axis : Axis) (widgets : Widgets) (id : ℕ) (keys : List ℕ) → IsWidgets widgets → IsLive widgets id → AreChildren widgets id keys
    → last_asked (needs_seen axis (map (child_for widgets) keys)) ≡ last_asked (needs_for axis widgets id)
last-children axis widgets id keys valid live kids = greatest-children axis (λ (need : Need). need.track) widgets id keys valid live kids

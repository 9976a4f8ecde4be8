-- The least size of a numbered widget, from its kind and its children.
use Rattle.std.proofs.Common.{◌≡◌, ℕ, zero, suc, ◌-◌, ◌%◌, ◌<◌, ◌≤◌, Bool, true, false, cond, ◌&&◌, nat_eq, List, length, get_or, set, replicate, Option, Some, None, IfSome, refl, sym, ap, ◌∙◌, arith, subst, inl, inr, ◌⊎◌}
use Rattle.std.proofs.lemmas.Bool.{and_parts, eqb-true, true≢false, cases_eq, cases_lt}
use Rattle.std.specs.Option.{option_map}
use Rattle.std.proofs.lemmas.List.{get_or-set_other, get_or-set_same, set_past}
use Rattle.widget_model.specs.Rows.{Row}
use Rattle.widget_model.specs.Named.{AreNamedApart}
use Rattle.widget_model.specs.Keys.{key_of, row_of}
use Rattle.widget_model.specs.Trees.{ends_within, most_levels}
use Rattle.widget_model.specs.Fitting.{is_fit}
use Rattle.widget_model.specs.Widgets.{Widgets, rows_of, IsLive}
use Rattle.widget_model.specs.Forest.{IsWidgets}
use Rattle.widget_model.specs.Relatives.{parent_id}
use Rattle.widget_model.proofs.Naming.{id_named-row}
use Rattle.widget_model.proofs.Fit.{IsFit-is_fit}
use Rattle.widget_model.proofs.Hanging.{all_at}
use Rattle.tree_core.proofs.Listed.{numbered_place}
use Rattle.scene_model.specs.declared.axis.Axis.{Axis}
use Rattle.scene_model.specs.declared.axis.Axis.TheVariants.{Across, Down}
use Rattle.scene_model.specs.Spans.{along}
use Rattle.scene_model.specs.Tracks.{rules_of, grid_least}
use Rattle.scene_model.specs.Least.{own_size, is_grid, least_by, least_of}
use Rattle.scene_model.proofs.LevelLaws.{leasts_come_from_children}
use Rattle.scene_model.proofs.Leasts.{IsFitRow, IsFitRow-at, IsFitCell-attached, cell_of-attached}
use Rattle.scene_model.proofs.Ranges.{leasts_are_small}
use Rattle.scene_model.proofs.Parents.{IsChildOf-is_child, ends_within-child}
use Rattle.scene_model.proofs.FitWidgets.{widgets_are_fit}
use Rattle.scene_core.specs.declared.size.Size.{Size}
use Rattle.scene_core.specs.Children.{row_for, size_for, child_for, needs_for, IsDeep}
use Rattle.scene_core.specs.declared.known.Known.{Known}
use Rattle.scene_core.specs.declared.known.KeptTracks.{KeptTracks}
use Rattle.scene_core.specs.Known.{AreKnown, AreSizes, AreKept, AreBothTracks}
use Rattle.scene_core.specs.Measured.{IsMeasured}
use Rattle.scene_core.proofs.Numbered.{live-there, row_of_name}
use Rattle.scene_core.proofs.ChildNeeds.{child-at}
use Rattle.scene_core.proofs.ChildNumbers.{parent_id-found}

-- a numbered widget is found by its key
pub key-found : (widgets : Widgets) (id : ℕ) → IsWidgets widgets → IsLive widgets id → row_of (rows_of widgets) (key_of (row_for widgets id)) ≡ Some (row_for widgets id)
key-found widgets id valid live =
    let row = row_for widgets id in
    row_of_name widgets row.client row.name valid ∙ ap (option_map (row_for widgets)) (id_named-row widgets.entries id row valid.rows.names (live-there widgets id live))

pub apart : (widgets : Widgets) → IsWidgets widgets → AreNamedApart (rows_of widgets)
apart widgets valid = valid.rows.names

least-step : (widgets : Widgets) (id : ℕ) (axis : Axis) → IsWidgets widgets → IsLive widgets id → least_of (rows_of widgets) axis (row_for widgets id) ≡ least_by (least_of (rows_of widgets) axis) axis (rows_of widgets) (row_for widgets id)
least-step widgets id axis valid live = leasts_come_from_children (rows_of widgets) axis (row_for widgets id) valid.rows.planted (apart widgets valid) (key-found widgets id valid live)

pub least-grid : (widgets : Widgets) (id : ℕ) (axis : Axis) → IsWidgets widgets → IsLive widgets id → is_grid (row_for widgets id).kind ≡ true
    → least_of (rows_of widgets) axis (row_for widgets id) ≡ grid_least (needs_for axis widgets id) (rules_of axis (row_for widgets id))
unfolding least_by
least-grid widgets id axis valid live is =
    least-step widgets id axis valid live ∙ ap (λ (b : Bool). cond b (grid_least (needs_for axis widgets id) (rules_of axis (row_for widgets id))) (along axis (own_size (row_for widgets id).kind (rows_of widgets) (row_for widgets id)).0 (own_size (row_for widgets id).kind (rows_of widgets) (row_for widgets id)).1)) is

pub least-own : (widgets : Widgets) (id : ℕ) (axis : Axis) → IsWidgets widgets → IsLive widgets id → is_grid (row_for widgets id).kind ≡ false
    → least_of (rows_of widgets) axis (row_for widgets id) ≡ along axis (own_size (row_for widgets id).kind (rows_of widgets) (row_for widgets id)).0 (own_size (row_for widgets id).kind (rows_of widgets) (row_for widgets id)).1
unfolding least_by
least-own widgets id axis valid live is =
    least-step widgets id axis valid live ∙ ap (λ (b : Bool). cond b (grid_least (needs_for axis widgets id) (rules_of axis (row_for widgets id))) (along axis (own_size (row_for widgets id).kind (rows_of widgets) (row_for widgets id)).0 (own_size (row_for widgets id).kind (rows_of widgets) (row_for widgets id)).1)) is

pub size-small : (widgets : Widgets) (id : ℕ) (axis : Axis) → IsWidgets widgets → IsLive widgets id → least_of (rows_of widgets) axis (row_for widgets id) ≤ 4096
size-small widgets id axis valid live = leasts_are_small (rows_of widgets) axis (row_for widgets id) (widgets_are_fit widgets valid) (key-found widgets id valid live)

pub row-fit : (widgets : Widgets) (id : ℕ) → IsWidgets widgets → IsLive widgets id → IsFitRow (row_for widgets id)
row-fit widgets id valid live =
    let place = numbered_place widgets.entries id (row_for widgets id) (live-there widgets id live) in
    IsFitRow-at (rows_of widgets) place.0 (row_for widgets id) (widgets_are_fit widgets valid) place.1

pub rules-sixteen : (widgets : Widgets) (id : ℕ) (axis : Axis) → IsWidgets widgets → IsLive widgets id → length (rules_of axis (row_for widgets id)) ≡ 16
rules-sixteen widgets id axis valid live =
    let row = row_for widgets id in
    let place = numbered_place widgets.entries id row (live-there widgets id live) in
    let fit = IsFit-is_fit row (all_at is_fit (rows_of widgets) place.0 row valid.rows.fitting place.1) in
    let sides = and_parts (nat_eq (length row.column_rules) 16) (nat_eq (length row.row_rules) 16 && nat_eq (length row.bindings) 7) fit.slots in
    let lower = and_parts (nat_eq (length row.row_rules) 16) (nat_eq (length row.bindings) 7) sides.1 in
    by axis (eqb-true (length row.column_rules) 16 sides.0) (eqb-true (length row.row_rules) 16 lower.0)
  where
    by : (axis : Axis) → length (row_for widgets id).column_rules ≡ 16 → length (row_for widgets id).row_rules ≡ 16 → length (rules_of axis (row_for widgets id)) ≡ 16
    by Across a b = a
    by Down a b = b

-- a child is one level deeper
pub deep-child : (widgets : Widgets) (most id kid : ℕ) → IsWidgets widgets → IsDeep widgets (suc most) id → IsLive widgets kid → parent_id widgets kid ≡ Some id → IsDeep widgets most kid
deep-child widgets most id kid valid deep live parent =
    let at = child-at widgets id kid valid parent in
    let of = IsChildOf-is_child (row_for widgets id).client (row_for widgets id).name (row_for widgets kid) at.is in
    let less = deep.within in
    let e : most_levels - most ≡ suc (most_levels - suc most) = omega (arith, less) in
    record {
      upper = ap (λ (n : ℕ). ends_within n (rows_of widgets) (row_for widgets kid).client (row_for widgets kid).name) e
          ∙ ends_within-child (most_levels - suc most) (rows_of widgets) (row_for widgets id).client (row_for widgets id).name (row_for widgets kid) (record { named = key-found widgets kid valid live }) of
          ∙ deep.upper;
      within = omega (arith, less);
    }

-- no widget is deeper than all levels
pub deep-none : (widgets : Widgets) (id : ℕ) → IsWidgets widgets → IsLive widgets id → IsDeep widgets 0 id → ⊥
deep-none widgets id valid live deep =
    let row = row_for widgets id in
    let place = numbered_place widgets.entries id row (live-there widgets id live) in
    let low : ends_within most_levels (rows_of widgets) row.client row.name ≡ true = all_at (λ (row : Row). ends_within most_levels (rows_of widgets) row.client row.name) (rows_of widgets) place.0 row valid.rows.planted.low place.1 in
    let e : most_levels - 0 ≡ most_levels = omega arith in
    true≢false (sym low ∙ ap (λ (n : ℕ). ends_within n (rows_of widgets) row.client row.name) (sym e) ∙ deep.upper)

pub deep-all : (widgets : Widgets) (id : ℕ) → IsDeep widgets most_levels id
deep-all widgets id = record {
  upper = ap (λ (n : ℕ). ends_within n (rows_of widgets) (row_for widgets id).client (row_for widgets id).name) (let e : most_levels - most_levels ≡ 0 = omega arith in e);
  within = omega arith;
}

-- a child of a widget is live
pub child-live : (widgets : Widgets) (id kid : ℕ) → IsWidgets widgets → parent_id widgets kid ≡ Some id → IsLive widgets kid
child-live widgets id kid valid parent = let f = parent_id-found widgets id kid valid parent in rw f.lower_there refl

-- a child's cell and least size are in range
pub child-measured : (widgets : Widgets) (id kid : ℕ) → IsWidgets widgets → parent_id widgets kid ≡ Some id → IsMeasured (child_for widgets kid)
child-measured widgets id kid valid parent =
    let live = child-live widgets id kid valid parent in
    let at = child-at widgets id kid valid parent in
    let of = IsChildOf-is_child (row_for widgets id).client (row_for widgets id).name (row_for widgets kid) at.is in
    let cell = IsFitCell-attached (rows_of widgets) at.index (row_for widgets kid) (row_for widgets id).name of.cell valid.rows.planted at.there of.attached in
    let same = cell_of-attached (row_for widgets kid) (row_for widgets id).name of.cell of.attached in
    record {
      column = rw same (cell.column_some, cell.column_most);
      line = rw same (cell.row_some, cell.row_most);
      pad = rw same cell.pad_most;
      width = size-small widgets kid Across valid live;
      height = size-small widgets kid Down valid live;
    }

-- one size more is known
known-put : (widgets : Widgets) (sizes : List (Option Size)) (id : ℕ) (size : Size) → AreSizes widgets sizes → size ≡ size_for widgets id → AreSizes widgets (set sizes id (Some size))
known-put widgets sizes id size known is other = elim (cases_eq other id) [ inl same ↦ at same (cases_lt id (length sizes)) | inr apart ↦ rw (get_or-set_other sizes id other (Some size) None apart) (known other) ]
  where
    Q : ℕ → Option Size → Type 0
    Q n o = IfSome o (λ (s : Size). s ≡ size_for widgets n)

    at : other ≡ id → (id < length sizes) ⊎ (length sizes ≤ id) → IfSome (get_or (set sizes id (Some size)) other None) (λ (s : Size). s ≡ size_for widgets other)
    at same (inl less) =
        subst (λ (n : ℕ). IfSome (get_or (set sizes id (Some size)) n None) (λ (s : Size). s ≡ size_for widgets n)) (sym same)
        (subst (λ (o : Option Size). IfSome o (λ (s : Size). s ≡ size_for widgets id)) (sym (get_or-set_same sizes id (Some size) None less)) is)
    at same (inr past) =
        subst (λ (xs : List (Option Size)). IfSome (get_or xs other None) (λ (s : Size). s ≡ size_for widgets other)) (sym (set_past sizes id (Some size) past)) (known other)

pub known-sized : (widgets : Widgets) (old new : Known) (id : ℕ) (size : Size) → new.sizes ≡ set old.sizes id (Some size) → new.tracks ≡ old.tracks → AreKnown widgets old → size ≡ size_for widgets id → AreKnown widgets new
known-sized widgets old new id size sizes tracks known is = record {
  sizes = subst (AreSizes widgets) (sym sizes) (known-put widgets old.sizes id size known.sizes is);
  tracks = subst (AreKept widgets) (sym tracks) known.tracks;
}

-- what holds of each element that is there holds with one put in
put-each : {X : Type 0} (P : X → Type 0) (slots : List (Option X)) (i : ℕ) (x : X) → ((slot : ℕ) → IfSome (get_or slots slot None) P) → P x → (slot : ℕ) → IfSome (get_or (set slots i (Some x)) slot None) P
put-each {X} P slots i x each is slot = elim (cases_eq slot i) [ inl same ↦ at same (cases_lt i (length slots)) | inr apart ↦ rw (get_or-set_other slots i slot (Some x) None apart) (each slot) ]
  where
    at : slot ≡ i → (i < length slots) ⊎ (length slots ≤ i) → IfSome (get_or (set slots i (Some x)) slot None) P
    at same (inl less) =
        subst (λ (n : ℕ). IfSome (get_or (set slots i (Some x)) n None) P) (sym same)
        (subst (λ (o : Option X). IfSome o P) (sym (get_or-set_same slots i (Some x) None less)) is)
    at same (inr past) =
        subst (λ (xs : List (Option X)). IfSome (get_or xs slot None) P) (sym (set_past slots i (Some x) past)) (each slot)

-- the tracks of one Grid more are kept
pub known-tracked : (widgets : Widgets) (old new : Known) (id : ℕ) (kept : KeptTracks) → new.sizes ≡ old.sizes → new.tracks ≡ set old.tracks (id % 16) (Some kept) → AreKnown widgets old → AreBothTracks widgets kept.key kept.tracks → AreKnown widgets new
known-tracked widgets old new id kept sizes tracks known are = record {
  sizes = subst (AreSizes widgets) (sym sizes) known.sizes;
  tracks = subst (AreKept widgets) (sym tracks) (put-each (λ (k : KeptTracks). AreBothTracks widgets k.key k.tracks) old.tracks (id % 16) kept known.tracks are);
}

-- kept tracks are those of their Grid
pub tracks-kept : (widgets : Widgets) (known : Known) (id : ℕ) (kept : KeptTracks) → AreKnown widgets known → kept.key ≡ id → get_or known.tracks (id % 16) None ≡ Some kept → AreBothTracks widgets id kept.tracks
tracks-kept widgets known id kept are same there =
    subst (λ (n : ℕ). AreBothTracks widgets n kept.tracks) same
    (subst (λ (o : Option KeptTracks). IfSome o (λ (k : KeptTracks). AreBothTracks widgets k.key k.tracks)) there (are.tracks (id % 16)))

-- at first nothing is known
pub none-known : {X : Type 0} (n i : ℕ) → get_or {A = Option X} (replicate n None) i None ≡ None
none-known zero i = refl
none-known (suc n) zero = refl
none-known {X} (suc n) (suc i) = none-known {X = X} n i

pub known-none : (widgets : Widgets) (known : Known) → ((id : ℕ) → get_or known.sizes id None ≡ None) → ((slot : ℕ) → get_or known.tracks slot None ≡ None) → AreKnown widgets known
known-none widgets known sizes tracks = record {
  sizes = λ id. subst (λ (o : Option Size). IfSome o (λ (s : Size). s ≡ size_for widgets id)) (sym (sizes id)) tt;
  tracks = λ slot. subst (λ (o : Option KeptTracks). IfSome o (λ (k : KeptTracks). AreBothTracks widgets k.key k.tracks)) (sym (tracks slot)) tt;
}

-- The widgets of a view by their keys and by their numbers.
use Rattle.std.proofs.Common.{◌≡◌, ℕ, suc, zero, Bool, true, false, ◌&&◌, ◌||◌, nat_eq, List, [], ◌∷◌, map, slice_get, Option, Some, None, IsSome, is_some, refl, sym, ap, ◌∙◌, All, subst}
use Rattle.std.specs.Cmp.{both_ways}
use Rattle.std.specs.List.{list_any, list_all}
use Rattle.std.specs.Option.{option_map, option_map_or, option_and_then}
use Rattle.std.proofs.lemmas.Bool.{true≢false, and_from, eqb-true, eq-eqb, false_from_ne_true}
use Rattle.std.proofs.lemmas.List.Elements.{All-head, All-tail}
use Rattle.kind_core.specs.declared.shapes.Cell.{Cell}
use Rattle.kind_core.specs.declared.kinds.Kind.TheVariants.{Window}
use Rattle.widget_model.specs.Rows.{Row}
use Rattle.widget_model.specs.Nodes.{id_named}
use Rattle.widget_model.specs.Named.{is_kind_of}
use Rattle.widget_model.specs.Kinds.{is_window_kind}
use Rattle.widget_model.specs.Keys.{key_of, same_key, row_of, parent_key, root_key}
use Rattle.widget_model.specs.Trees.{root_of}
use Rattle.widget_model.specs.Widgets.{Widgets, rows_of, row_at, row_kind, key_at, nodes, IsLive}
use Rattle.widget_model.specs.Relatives.{parent_id, root_id}
use Rattle.widget_model.specs.Forest.{IsWidgets}
use Rattle.widget_model.proofs.Naming.{row_named-parts, row_at-named, row_named-found, id_named-row}
use Rattle.tree_core.specs.declared.pointer.Pointer.{Pointer}
use Rattle.tree_core.proofs.Listed.{any_place, listed_number}
use Rattle.scene_model.specs.Scene.{Scene}
use Rattle.scene_core.specs.View.{keys_of, scene_from}
use Rattle.view_shots.specs.Shots.{is_shown_id}
use Rattle.machine_model.specs.Damage.{keys_in}
use Rattle.machine_model.specs.DamageLaws.{IsSound}
use Rattle.machine_model.proofs.DamageKeys.{same_key-is, same_key-from}
use Rattle.machine_model.proofs.DamageScenes.{row_stands}
use Rattle.damage_rules.specs.Numbering.{is_shown}
use Rattle.damage_rules.proofs.Numbers.{Stands}

-- the row behind a key
record HasRow (widgets : Widgets) (id : ℕ) (key : ℕ × List ℕ) : Type 0 where
  pub row : Row
  pub there : row_at widgets.entries id ≡ Some row
  pub is : key_of row ≡ key

row-of : (widgets : Widgets) (id : ℕ) (key : ℕ × List ℕ) → key_at widgets.entries id ≡ Some key → HasRow widgets id key
row-of widgets id key at = by (row_at widgets.entries id) refl at
  where
    by : (o : Option Row) → row_at widgets.entries id ≡ o → option_map key_of o ≡ Some key → HasRow widgets id key
    by None q h = absurd (cc)
    by (Some row) q h = record { row = row; there = q; is = let e : key_of row ≡ key = cc in e }

pub key-live : (widgets : Widgets) (id : ℕ) (key : ℕ × List ℕ) → key_at widgets.entries id ≡ Some key → IsLive widgets id
key-live widgets id key at = let has = row-of widgets id key at in subst (λ (o : Option Row). IsSome o) (sym has.there) refl

-- a number with a key is that key's, and the other way round
pub named-at : (widgets : Widgets) (id : ℕ) (key : ℕ × List ℕ) → IsWidgets widgets → key_at widgets.entries id ≡ Some key → id_named (nodes widgets.entries) key.0 key.1 ≡ Some id
named-at widgets id key valid at =
    let has = row-of widgets id key at in
    ap (λ (k : ℕ × List ℕ). id_named (nodes widgets.entries) k.0 k.1) (sym has.is) ∙ id_named-row widgets.entries id has.row valid.rows.names has.there

pub at-named : (widgets : Widgets) (id : ℕ) (key : ℕ × List ℕ) → IsWidgets widgets → id_named (nodes widgets.entries) key.0 key.1 ≡ Some id → key_at widgets.entries id ≡ Some key
at-named widgets id key valid named = by (row_at widgets.entries id) refl (row_at-named widgets.entries key.0 key.1 id named)
  where
    by : (o : Option Row) → row_at widgets.entries id ≡ o → is_some o ≡ true → key_at widgets.entries id ≡ Some key
    by None q there = absurd (true≢false (sym there))
    by (Some row) q there =
        let parts = row_named-parts (rows_of widgets) key.0 key.1 row (row_named-found widgets.entries key.0 key.1 id valid.numbered.own_numbers named ∙ q) in
        ap (option_map key_of) q ∙ (λ i. Some (parts.0 i, parts.1 i))

-- the row of a key is that of its number
pub row-same : (widgets : Widgets) (id : ℕ) (key : ℕ × List ℕ) → IsWidgets widgets → key_at widgets.entries id ≡ Some key → row_of (rows_of widgets) key ≡ row_at widgets.entries id
row-same widgets id key valid at = row_named-found widgets.entries key.0 key.1 id valid.numbered.own_numbers (named-at widgets id key valid at)

-- one of the keys has a number
pub stands-at : (widgets : Widgets) (key : ℕ × List ℕ) → IsWidgets widgets → Stands key (map key_of (rows_of widgets)) → (id : ℕ) × (key_at widgets.entries id ≡ Some key)
stands-at widgets key valid stands =
    let place = any_place (same_key key) (map key_of (rows_of widgets)) stands in
    let same : key ≡ place.1 = same_key-is key place.1 place.3 in
    let at = row-at (rows_of widgets) place.0 place.1 place.2 in
    let number = listed_number widgets.entries place.0 at.0 valid.numbered.own_numbers at.1 in
    (number.0, ap (option_map key_of) number.1 ∙ ap (λ (k : ℕ × List ℕ). Some k) (at.2 ∙ sym same))
  where
    row-at : (rows : List Row) (i : ℕ) (k : ℕ × List ℕ) → slice_get (map key_of rows) i ≡ Some k → (row : Row) × (slice_get rows i ≡ Some row) × (key_of row ≡ k)
    row-at [] i k there = absurd (cc)
    row-at (row ∷ rows) zero k there = (row, refl, let e : key_of row ≡ k = cc in e)
    row-at (row ∷ rows) (suc i) k there = row-at rows i k there

-- and a key with a number is one of the keys
pub at-stands : (scene : Scene) (widgets : Widgets) (id : ℕ) (key : ℕ × List ℕ) → scene.rows ≡ rows_of widgets → IsWidgets widgets → key_at widgets.entries id ≡ Some key → Stands key (keys_in scene)
at-stands scene widgets id key rows valid at =
    let has = row-of widgets id key at in
    row_stands scene key has.row (ap (λ (rs : List Row). row_of rs key) rows ∙ row-same widgets id key valid at ∙ has.there)

-- the windows that are open, by their keys and by their numbers
pub open-number : (widgets : Widgets) (id : ℕ) (key : ℕ × List ℕ) (windows : List ℕ) → IsWidgets widgets → key_at widgets.entries id ≡ Some key → list_any (same_key key) (keys_of widgets.entries windows) ≡ list_any (nat_eq id) windows
open-number widgets id key [] valid at = refl
open-number widgets id key (window ∷ windows) valid at = by (key_at widgets.entries window) refl (open-number widgets id key windows valid at)
  where
    by : (o : Option (ℕ × List ℕ)) → key_at widgets.entries window ≡ o → list_any (same_key key) (keys_of widgets.entries windows) ≡ list_any (nat_eq id) windows
        → list_any (same_key key) (option_map_or (λ (k : ℕ × List ℕ). k ∷ keys_of widgets.entries windows) o (keys_of widgets.entries windows)) ≡ (nat_eq id window || list_any (nat_eq id) windows)
    by None q rest = rest ∙ ap (λ (b : Bool). b || list_any (nat_eq id) windows) (sym apart)
      where
        apart : nat_eq id window ≡ false
        apart = false_from_ne_true (nat_eq id window) (λ same. let both : Some key ≡ None = sym at ∙ ap (key_at widgets.entries) (eqb-true id window same) ∙ q in absurd (cc))
    by (Some other) q rest = λ i. first i || rest i
      where
        first : same_key key other ≡ nat_eq id window
        first = both_ways (same_key key other) (nat_eq id window)
            (λ same. let both : Some id ≡ Some window = sym (named-at widgets id key valid at) ∙ ap (λ (k : ℕ × List ℕ). id_named (nodes widgets.entries) k.0 k.1) (same_key-is key other same) ∙ named-at widgets window other valid q in
            let e : id ≡ window = cc in eq-eqb id window e)
            (λ same. let both : Some key ≡ Some other = sym at ∙ ap (key_at widgets.entries) (eqb-true id window same) ∙ q in
            let e : key ≡ other = cc in same_key-from key other e)

-- a key without a number is no open window's
open-none : (widgets : Widgets) (key : ℕ × List ℕ) (windows : List ℕ) → IsWidgets widgets → id_named (nodes widgets.entries) key.0 key.1 ≡ None → list_any (same_key key) (keys_of widgets.entries windows) ≡ false
open-none widgets key [] valid none = refl
open-none widgets key (window ∷ windows) valid none = by (key_at widgets.entries window) refl (open-none widgets key windows valid none)
  where
    by : (o : Option (ℕ × List ℕ)) → key_at widgets.entries window ≡ o → list_any (same_key key) (keys_of widgets.entries windows) ≡ false
        → list_any (same_key key) (option_map_or (λ (k : ℕ × List ℕ). k ∷ keys_of widgets.entries windows) o (keys_of widgets.entries windows)) ≡ false
    by None q rest = rest
    by (Some other) q rest = ap (λ (b : Bool). b || list_any (same_key key) (keys_of widgets.entries windows)) apart ∙ rest
      where
        apart : same_key key other ≡ false
        apart = false_from_ne_true (same_key key other) (λ same.
            let both : None ≡ Some window = sym none ∙ ap (λ (k : ℕ × List ℕ). id_named (nodes widgets.entries) k.0 k.1) (same_key-is key other same) ∙ named-at widgets window other valid q in absurd (cc))

-- the root's number is that of the root's key
pub root-named : (widgets : Widgets) (id : ℕ) (key : ℕ × List ℕ) → key_at widgets.entries id ≡ Some key → root_id widgets id ≡ id_named (nodes widgets.entries) (root_key (rows_of widgets) key).0 (root_key (rows_of widgets) key).1
root-named widgets id key at =
    let has = row-of widgets id key at in
    ap (option_and_then (λ (row : Row). id_named (nodes widgets.entries) row.client (root_of (rows_of widgets) row.client row.name))) has.there
    ∙ ap (λ (k : ℕ × List ℕ). id_named (nodes widgets.entries) (root_key (rows_of widgets) k).0 (root_key (rows_of widgets) k).1) has.is

-- the parent's number is that of the parent's key
pub parent-named : (widgets : Widgets) (id : ℕ) (key : ℕ × List ℕ) → IsWidgets widgets → key_at widgets.entries id ≡ Some key
    → parent_id widgets id ≡ option_and_then (λ (k : ℕ × List ℕ). id_named (nodes widgets.entries) k.0 k.1) (parent_key (rows_of widgets) key)
parent-named widgets id key valid at =
    let has = row-of widgets id key at in
    ap (option_and_then (λ (row : Row). option_and_then (λ (attached : List ℕ × Cell). id_named (nodes widgets.entries) row.client attached.0) row.attached)) has.there
    ∙ by has.row.attached
    ∙ ap (λ (client : ℕ). option_and_then (λ (k : ℕ × List ℕ). id_named (nodes widgets.entries) k.0 k.1) (option_map (λ (name : List ℕ). (client, name)) (option_map (λ (attached : List ℕ × Cell). attached.0) has.row.attached))) (ap (λ (k : ℕ × List ℕ). k.0) has.is)
    ∙ sym (ap (λ (o : Option Row). option_and_then (λ (k : ℕ × List ℕ). id_named (nodes widgets.entries) k.0 k.1) (option_map (λ (name : List ℕ). (key.0, name)) (option_and_then (λ (row : Row). option_map (λ (attached : List ℕ × Cell). attached.0) row.attached) o))) (row-same widgets id key valid at ∙ has.there))
  where
    by : (o : Option (List ℕ × Cell)) → option_and_then (λ (attached : List ℕ × Cell). id_named (nodes widgets.entries) (row-of widgets id key at).row.client attached.0) o
        ≡ option_and_then (λ (k : ℕ × List ℕ). id_named (nodes widgets.entries) k.0 k.1) (option_map (λ (name : List ℕ). ((row-of widgets id key at).row.client, name)) (option_map (λ (attached : List ℕ × Cell). attached.0) o))
    by None = refl
    by (Some attached) = refl

-- a widget is shown by its key exactly where it is by its number
pub shown-same : (widgets : Widgets) (windows : List ℕ) (pointer : Pointer) (width height id : ℕ) (key : ℕ × List ℕ) → IsWidgets widgets → key_at widgets.entries id ≡ Some key
    → is_shown (scene_from widgets windows pointer width height) key ≡ is_shown_id widgets windows id
unfolding is_shown_id
shown-same widgets windows pointer width height id key valid at =
    ap (λ (b : Bool). b && list_any (same_key root) (keys_of widgets.entries windows)) (at-stands (scene_from widgets windows pointer width height) widgets id key refl valid at)
    ∙ by (id_named (nodes widgets.entries) root.0 root.1) refl
    ∙ sym (ap (λ (o : Option ℕ). option_map_or (λ (n : ℕ). list_any (nat_eq n) windows) o false) (root-named widgets id key at))
  where
    root : ℕ × List ℕ
    root = root_key (rows_of widgets) key

    by : (o : Option ℕ) → id_named (nodes widgets.entries) (root_key (rows_of widgets) key).0 (root_key (rows_of widgets) key).1 ≡ o
        → list_any (same_key (root_key (rows_of widgets) key)) (keys_of widgets.entries windows) ≡ option_map_or (λ (n : ℕ). list_any (nat_eq n) windows) o false
    by None q = open-none widgets (root_key (rows_of widgets) key) windows valid q
    by (Some n) q = open-number widgets n (root_key (rows_of widgets) key) windows valid (at-named widgets n (root_key (rows_of widgets) key) valid q)

-- a number that is shown is live
pub shown-live : (widgets : Widgets) (windows : List ℕ) (id : ℕ) → is_shown_id widgets windows id ≡ true → (key : ℕ × List ℕ) × (key_at widgets.entries id ≡ Some key)
unfolding is_shown_id
shown-live widgets windows id shown = by (row_at widgets.entries id) refl shown
  where
    by : (o : Option Row) → row_at widgets.entries id ≡ o
        → option_map_or (λ (n : ℕ). list_any (nat_eq n) windows) (option_and_then (λ (row : Row). id_named (nodes widgets.entries) row.client (root_of (rows_of widgets) row.client row.name)) o) false ≡ true
        → (key : ℕ × List ℕ) × (key_at widgets.entries id ≡ Some key)
    by None q h = absurd (true≢false (sym h))
    by (Some row) q h = (key_of row, ap (option_map key_of) q)

-- the scene of a view is sound
pub sound-view : (widgets : Widgets) (windows : List ℕ) (pointer : Pointer) (width height : ℕ) → IsWidgets widgets → All (λ (id : ℕ). row_kind widgets.entries id ≡ Some Window) windows → IsSound (scene_from widgets windows pointer width height)
sound-view widgets windows pointer width height valid each = record {
  names = valid.rows.names;
  planted = valid.rows.planted;
  windows = all windows each;
}
  where
    P : ℕ → Type 0
    P id = row_kind widgets.entries id ≡ Some Window

    is : (window : ℕ) (key : ℕ × List ℕ) → key_at widgets.entries window ≡ Some key → row_kind widgets.entries window ≡ Some Window → is_kind_of is_window_kind (row_of (rows_of widgets) key) ≡ true
    is window key at kind =
        let has = row-of widgets window key at in
        let row_is : has.row.kind ≡ Window = let e : Some has.row.kind ≡ Some Window = sym (ap (option_map (λ (row : Row). row.kind)) has.there) ∙ kind in cc in
        ap (is_kind_of is_window_kind) (row-same widgets window key valid at ∙ has.there) ∙ ap is_window_kind row_is

    all : (ids : List ℕ) → All (λ (id : ℕ). row_kind widgets.entries id ≡ Some Window) ids → list_all (λ (key : ℕ × List ℕ). is_kind_of is_window_kind (row_of (rows_of widgets) key)) (keys_of widgets.entries ids) ≡ true
    all [] kinds = refl
    all (window ∷ ids) kinds = by (key_at widgets.entries window) refl (all ids (All-tail P window ids kinds))
      where
        by : (o : Option (ℕ × List ℕ)) → key_at widgets.entries window ≡ o → list_all (λ (key : ℕ × List ℕ). is_kind_of is_window_kind (row_of (rows_of widgets) key)) (keys_of widgets.entries ids) ≡ true
            → list_all (λ (key : ℕ × List ℕ). is_kind_of is_window_kind (row_of (rows_of widgets) key)) (option_map_or (λ (k : ℕ × List ℕ). k ∷ keys_of widgets.entries ids) o (keys_of widgets.entries ids)) ≡ true
        by None q rest = rest
        by (Some key) q rest = and_from (is_kind_of is_window_kind (row_of (rows_of widgets) key)) (list_all (λ (k : ℕ × List ℕ). is_kind_of is_window_kind (row_of (rows_of widgets) k)) (keys_of widgets.entries ids)) (is window key q (All-head P window ids kinds)) rest

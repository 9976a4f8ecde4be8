-- From numbers to rows: what a call of the tree says of a number is said of the row with that number.
use Rattle.std.proofs.Common.{◌≡◌, ℕ, Bool, true, false, cond, List, [], ◌∷◌, Option, Some, None, IsSome, refl, sym, ap, ◌∙◌, nat_eq, eq-eqb}
use Rattle.std.specs.Option.{option_map, option_map_or, option_and_then}
use Rattle.kind_core.specs.declared.kinds.Attr.TheVariants.{Value}
use Rattle.kind_core.specs.declared.shapes.Cell.{Cell}
use Rattle.kind_core.specs.declared.kinds.Kind.TheVariants.{Grid}
use Rattle.widget_model.specs.Rows.{Row}
use Rattle.widget_model.specs.Named.{has_name, row_named}
use Rattle.widget_model.specs.Nodes.{id_named}
use Rattle.widget_model.specs.Widgets.{Widgets, rows_of, row_at, nodes, IsLive, IsGrid}
use Rattle.widget_model.specs.Forest.{IsWidgets}
use Rattle.widget_model.specs.Links.{linked_id}
use Rattle.widget_model.specs.Relatives.{parent_id}
use Rattle.widget_model.proofs.Naming.{row_named-found, row_named-none}
use Rattle.scene_model.specs.Values.{number_of, linked_value}
use Rattle.scene_model.specs.Tracks.{cell_of}
use Rattle.scene_model.specs.Placing.{parent_row}
use Rattle.tree_core.specs.declared.id.Id.{Id}
use Rattle.scene_core.specs.Children.{row_for, blank_row}

pub row_for-there : (widgets : Widgets) (id : ℕ) (row : Row) → row_at widgets.entries id ≡ Some row → row_for widgets id ≡ row
unfolding row_for
row_for-there widgets id row there = rw there refl

pub live-there : (widgets : Widgets) (id : ℕ) → IsLive widgets id → row_at widgets.entries id ≡ Some (row_for widgets id)
unfolding row_for
live-there widgets id live = by (row_at widgets.entries id) refl live
  where
    by : (o : Option Row) → row_at widgets.entries id ≡ o → IsSome o → row_at widgets.entries id ≡ Some (option_map_or (λ (row : Row). row) (row_at widgets.entries id) blank_row)
    by None q h = absurd (cc)
    by (Some row) q h = rw q refl

-- what is read of the numbered row
pub read : {X : Type 0} (f : Row → X) (widgets : Widgets) (id : ℕ) (x : X) → option_map f (row_at widgets.entries id) ≡ Some x → x ≡ f (row_for widgets id)
unfolding row_for
read {X} f widgets id x h = by (row_at widgets.entries id) refl h
  where
    by : (o : Option Row) → row_at widgets.entries id ≡ o → option_map f o ≡ Some x → x ≡ f (option_map_or (λ (row : Row). row) (row_at widgets.entries id) blank_row)
    by None q h = absurd (cc)
    by (Some row) q h = let same : f row ≡ x = cc in rw q (sym same)

-- the number that a name has is a row's
row_at-named : (es : List (ℕ × Row)) (client : ℕ) (name : List ℕ) (id : ℕ) → id_named (nodes es) client name ≡ Some id → IsSome (row_at es id)
row_at-named [] client name id found = absurd (cc)
row_at-named (e ∷ es) client name id found = by (row_at-named es client name id) (has_name client name e.1) found
  where
    later : (b : Bool) → IsSome (row_at es id) → IsSome (cond b (Some e.1) (row_at es id))
    later true h = refl
    later false h = h

    by : (id_named (nodes es) client name ≡ Some id → IsSome (row_at es id)) → (b : Bool) → cond b (Some e.0) (id_named (nodes es) client name) ≡ Some id → IsSome (row_at (e ∷ es) id)
    by rest true h = let same : e.0 ≡ id = cc in rw (eq-eqb id e.0 (sym same)) refl
    by rest false h = later (nat_eq id e.0) (rest h)

-- the row of a name is the row of its number
pub row_of_name : (widgets : Widgets) (client : ℕ) (name : List ℕ) → IsWidgets widgets → row_named (rows_of widgets) client name ≡ option_map (row_for widgets) (id_named (nodes widgets.entries) client name)
row_of_name widgets client name valid = by (id_named (nodes widgets.entries) client name) refl
  where
    by : (o : Option ℕ) → id_named (nodes widgets.entries) client name ≡ o → row_named (rows_of widgets) client name ≡ option_map (row_for widgets) o
    by None q = row_named-none widgets.entries client name q
    by (Some id) q = row_named-found widgets.entries client name id valid.numbered.own_numbers q ∙ live-there widgets id (row_at-named widgets.entries client name id q)

-- the value of the linked Variable
pub linked_read : (widgets : Widgets) (id : ℕ) → IsWidgets widgets → IsLive widgets id
    → linked_value (rows_of widgets) (row_for widgets id) ≡ option_map (λ (n : ℕ). number_of Value (row_for widgets n)) (linked_id widgets id)
unfolding linked_value
linked_read widgets id valid live =
    let row = row_for widgets id in
    by row.link refl
    ∙ sym (ap (λ (o : Option Row). option_map (λ (n : ℕ). number_of Value (row_for widgets n)) (option_and_then (λ (r : Row). option_and_then (id_named (nodes widgets.entries) r.client) r.link) o)) (live-there widgets id live))
  where
    by : (o : Option (List ℕ)) → (row_for widgets id).link ≡ o
        → option_map (number_of Value) (option_and_then (row_named (rows_of widgets) (row_for widgets id).client) o)
        ≡ option_map (λ (n : ℕ). number_of Value (row_for widgets n)) (option_and_then (id_named (nodes widgets.entries) (row_for widgets id).client) o)
    by None q = refl
    by (Some name) q = ap (option_map (number_of Value)) (row_of_name widgets (row_for widgets id).client name valid) ∙ twice (id_named (nodes widgets.entries) (row_for widgets id).client name)
      where
        twice : (o : Option ℕ) → option_map (number_of Value) (option_map (row_for widgets) o) ≡ option_map (λ (n : ℕ). number_of Value (row_for widgets n)) o
        twice None = refl
        twice (Some n) = refl

-- the parent's row
pub parent_read : (widgets : Widgets) (id : ℕ) → IsWidgets widgets → IsLive widgets id
    → parent_row (rows_of widgets) (row_for widgets id) ≡ option_map (row_for widgets) (parent_id widgets id)
parent_read widgets id valid live =
    by (row_for widgets id).attached
    ∙ sym (ap (λ (o : Option Row). option_map (row_for widgets) (option_and_then (λ (r : Row). option_and_then (λ (attached : List ℕ × Cell). id_named (nodes widgets.entries) r.client attached.0) r.attached) o)) (live-there widgets id live))
  where
    by : (o : Option (List ℕ × Cell))
        → option_and_then (λ (attached : List ℕ × Cell). row_named (rows_of widgets) (row_for widgets id).client attached.0) o
        ≡ option_map (row_for widgets) (option_and_then (λ (attached : List ℕ × Cell). id_named (nodes widgets.entries) (row_for widgets id).client attached.0) o)
    by None = refl
    by (Some attached) = row_of_name widgets (row_for widgets id).client attached.0 valid

-- the cell in which a row hangs
pub cell_read : (row : Row) → option_map_or (λ (cell : Cell). cell) (option_map (λ (attached : List ℕ × Cell). attached.1) row.attached) (record { column = 0; row = 0; pad = 0 }) ≡ cell_of row
cell_read row = by row.attached
  where
    by : (o : Option (List ℕ × Cell)) → option_map_or (λ (cell : Cell). cell) (option_map (λ (attached : List ℕ × Cell). attached.1) o) (record { column = 0; row = 0; pad = 0 }) ≡ option_map_or (λ (attached : List ℕ × Cell). attached.1) o (record { column = 0; row = 0; pad = 0 })
    by None = refl
    by (Some attached) = refl

-- a number behind an Id
pub map_key : {X : Type 0} (f : ℕ → X) (o : Option Id) → option_map (λ (id : Id). f id.key) o ≡ option_map f (option_map (λ (id : Id). id.key) o)
map_key f None = refl
map_key f (Some id) = refl

-- a Grid's number is live, and its row is a Grid's
pub grid-live : (widgets : Widgets) (id : ℕ) → IsGrid widgets id → IsLive widgets id
grid-live widgets id grid = by (row_at widgets.entries id) refl grid
  where
    by : (o : Option Row) → row_at widgets.entries id ≡ o → option_map (λ (row : Row). row.kind) o ≡ Some Grid → IsSome o
    by None q h = absurd (cc)
    by (Some row) q h = refl

pub grid-kind : (widgets : Widgets) (id : ℕ) → IsGrid widgets id → (row_for widgets id).kind ≡ Grid
grid-kind widgets id grid = sym (read (λ (row : Row). row.kind) widgets id Grid grid)

pub kind-grid : (widgets : Widgets) (id : ℕ) → IsLive widgets id → (row_for widgets id).kind ≡ Grid → IsGrid widgets id
kind-grid widgets id live is = ap (option_map (λ (row : Row). row.kind)) (live-there widgets id live) ∙ ap Some is

-- The ways up a tree.
use Rattle.std.proofs.Common.{◌≡◌, ℕ, true, List, Option, Some, None, is_some, refl, sym, ap, ◌∙◌}
use Rattle.std.proofs.lemmas.Bool.{true≢false}
use Rattle.std.specs.Option.{option_map, option_and_then}
use Rattle.kind_core.specs.declared.shapes.Cell.{Cell}
use Rattle.widget_model.specs.Rows.{Row}
use Rattle.widget_model.specs.Nodes.{id_named}
use Rattle.widget_model.specs.Named.{row_named}
use Rattle.widget_model.specs.Trees.{parent_of, root_in}
use Rattle.widget_model.specs.Widgets.{row_at, nodes}
use Rattle.widget_model.proofs.Naming.{row_named-found, row_named-none}
use Rattle.widget_model.specs.Widgets.{rows_in}
use Rattle.tree_core.specs.Kept.{IsGrove}
use Rattle.tree_core.proofs.Listed.{row_named-row}
use Rattle.widget_model.proofs.Planting.{row_named-root}

-- the parent of a name is what the row under the name's number says
pub parent_of-found : (es : List (ℕ × Row)) (client : ℕ) (name : List ℕ) (id : ℕ) (row : Row) → IsGrove es → id_named (nodes es) client name ≡ Some id → row_at es id ≡ Some row → parent_of (rows_in es) client name ≡ option_map (λ (attached : List ℕ × Cell). attached.0) row.attached
parent_of-found es client name id row grove found there =
    let named : row_named (rows_in es) client name ≡ Some row = row_named-found es client name id grove.own_numbers found ∙ there in
    ap (option_and_then (λ (r : Row). option_map (λ (attached : List ℕ × Cell). attached.0) r.attached)) named

pub parent_of-none : (es : List (ℕ × Row)) (client : ℕ) (name : List ℕ) → id_named (nodes es) client name ≡ None → parent_of (rows_in es) client name ≡ None
parent_of-none es client name absent = ap (option_and_then (λ (r : Row). option_map (λ (attached : List ℕ × Cell). attached.0) r.attached)) (row_named-none es client name absent)

-- the root of a numbered widget has a number
pub root-numbered : (most : ℕ) (es : List (ℕ × Row)) (id : ℕ) (row : Row) → IsGrove es → row_at es id ≡ Some row → is_some (id_named (nodes es) row.client (root_in most (rows_in es) row.client row.name)) ≡ true
root-numbered most es id row grove there = by (id_named (nodes es) row.client (root_in most (rows_in es) row.client row.name)) refl
  where
    named : is_some (row_named (rows_in es) row.client (root_in most (rows_in es) row.client row.name)) ≡ true
    named = row_named-root most (rows_in es) row.client row.name grove.planted (ap is_some (row_named-row es id row grove.own_numbers grove.own_names there))

    by : (o : Option ℕ) → id_named (nodes es) row.client (root_in most (rows_in es) row.client row.name) ≡ o → is_some o ≡ true
    by None q = absurd (true≢false (sym named ∙ ap is_some (row_named-none es row.client (root_in most (rows_in es) row.client row.name) q)))
    by (Some n) q = refl

-- The number of a widget's parent, and what is taken out with the widget.
use Rattle.std.proofs.Common.{◌≡◌, ℕ, ◌<◌, ◌≤◌, ◌⊎◌, inl, inr, Bool, true, false, cond, nat_eq, List, [], ◌∷◌, length, get_or, Option, Some, None, is_some, refl, sym, ap, ◌∙◌, subst}
use Rattle.std.proofs.Math.ListN.{set}
use Rattle.std.proofs.lemmas.Bool.{eqb-true, cases_lt}
use Rattle.std.proofs.lemmas.List.{get_or_past}
use Rattle.std.specs.Option.{option_and_then}
use Rattle.kind_core.specs.declared.shapes.Cell.{Cell}
use Rattle.widget_model.specs.Rows.{Row, with_attached}
use Rattle.widget_model.specs.Nodes.{id_named}
use Rattle.widget_model.specs.Trees.{root_of}
use Rattle.widget_model.specs.Relatives.{parent_id, child_id, root_id}
use Rattle.widget_model.specs.Widgets.{row_at, nodes, with_row}
use Rattle.widget_model.specs.Rows.{IsIndex}
use Rattle.widget_model.specs.Forest.{HaveOwnNumbers}
use Rattle.row_store.specs.CellTable.{cell_offset}
use Rattle.widget_model.specs.Widgets.{rows_in}
use Rattle.tree_core.specs.Children.{widgets_in, HasChildren}
use Rattle.tree_core.specs.Kept.{IsGrove}
use Rattle.widget_model.proofs.Naming.{row_at-named, with_row-absent}
use Rattle.tree_core.proofs.Children.{child_id-hangs, attached-hangs, HangsUnder-HangsAt, hangs-child_id}
use Rattle.tree_core.proofs.Moves.{HasChildren-put, IsPutIn-unhang}

parent_id-row : (es : List (ℕ × Row)) (id : ℕ) (row : Row) (name : List ℕ) (cell : Cell) → row_at es id ≡ Some row → row.attached ≡ Some (name, cell) → parent_id (widgets_in es) id ≡ id_named (nodes es) row.client name
parent_id-row es id row name cell there attached =
    ap (option_and_then (λ (r : Row). option_and_then (λ (s : List ℕ × Cell). id_named (nodes es) r.client s.0) r.attached)) there
    ∙ ap (option_and_then (λ (s : List ℕ × Cell). id_named (nodes es) row.client s.0)) attached

-- a widget that hangs in another has a parent
pub parent_id-there : (es : List (ℕ × Row)) (id : ℕ) (row : Row) (name : List ℕ) (cell : Cell) → IsGrove es → row_at es id ≡ Some row → row.attached ≡ Some (name, cell) → is_some (parent_id (widgets_in es) id) ≡ true
parent_id-there es id row name cell grove there attached =
    let h = attached-hangs es id row name cell grove there attached in
    ap is_some (parent_id-row es id row name cell there attached ∙ h.numbered)

-- what taking a widget out of its cell is
pub record TakesOut (es : List (ℕ × Row)) (cells : List (Option ℕ)) (id parent : ℕ) (cell : Cell) : Type 0 where
  pub column : IsIndex cell.column
  pub line : IsIndex cell.row
  pub within : cell_offset parent cell.column cell.row < length cells
  pub children : HasChildren (with_row id (with_attached None) es) (set cells (cell_offset parent cell.column cell.row) None)

there_within : (cells : List (Option ℕ)) (place id : ℕ) → get_or cells place None ≡ Some id → place < length cells
there_within cells place id h = by (cases_lt place (length cells))
  where
    by : (place < length cells) ⊎ (length cells ≤ place) → place < length cells
    by (inl less) = less
    by (inr past) = absurd (let none : get_or cells place None ≡ None = get_or_past cells place None past in cc)

pub TakesOut-parent : (es : List (ℕ × Row)) (cells : List (Option ℕ)) (id : ℕ) (row : Row) (name : List ℕ) (cell : Cell) (parent : ℕ) → IsGrove es → HasChildren es cells → row_at es id ≡ Some row → row.attached ≡ Some (name, cell) → parent_id (widgets_in es) id ≡ Some parent → TakesOut es cells id parent cell
TakesOut-parent es cells id row name cell parent grove children there attached found =
    let h = attached-hangs es id row name cell grove there attached in
    let same : parent ≡ h.number = let one : Some parent ≡ Some h.number = sym found ∙ parent_id-row es id row name cell there attached ∙ h.numbered in cc in
    let here = children.each h.number cell.column cell.row h.cell_is.column h.cell_is.line ∙ hangs-child_id es id h.number cell.column cell.row grove (HangsUnder-HangsAt es id row name cell there attached h) in
    let within = there_within cells (cell_offset h.number cell.column cell.row) id here in
    let own : row.attached ≡ Some (h.upper.name, cell) = attached ∙ ap (λ (n : List ℕ). Some (n, cell)) (sym h.named) in
    record {
      column = h.cell_is.column;
      line = h.cell_is.line;
      within = rw same within;
      children = rw same (HasChildren-put es (with_row id (with_attached None) es) cells h.number h.upper cell None grove children h.upper_there h.cell_is.column h.cell_is.line within (IsPutIn-unhang es id h.upper row cell grove there h.owner own));
    }

-- without a parent nothing is taken out
with_row-alone : (es : List (ℕ × Row)) (id : ℕ) (row : Row) → HaveOwnNumbers (nodes es) → row_at es id ≡ Some row → row.attached ≡ None → with_row id (with_attached None) es ≡ es
with_row-alone [] id row own there alone = refl
with_row-alone (e ∷ es) id row own there alone = by (with_row-alone es id row own.1) (nat_eq id e.0) refl there
  where
    by : (row_at es id ≡ Some row → row.attached ≡ None → with_row id (with_attached None) es ≡ es) → (b : Bool) → nat_eq id e.0 ≡ b → cond b (Some e.1) (row_at es id) ≡ Some row → cond b (e.0, with_attached None e.1) e ∷ with_row id (with_attached None) es ≡ e ∷ es
    by rest true q h =
        let same : e.1 ≡ row = cc in
        let here : e.1.attached ≡ None = ap (λ (r : Row). r.attached) same ∙ alone in
        rw (with_row-absent es id (with_attached None) (rw (eqb-true id e.0 q) own.0)) (ap (λ (a : Option (List ℕ × Cell)). (e.0, with_attached a e.1) ∷ es) (sym here))
    by rest false q h = ap (λ (others : List (ℕ × Row)). e ∷ others) (rest h alone)

pub HasChildren-alone : (es : List (ℕ × Row)) (cells : List (Option ℕ)) (id : ℕ) (row : Row) → IsGrove es → HasChildren es cells → row_at es id ≡ Some row → row.attached ≡ None → HasChildren (with_row id (with_attached None) es) cells
HasChildren-alone es cells id row grove children there alone =
    let H : List (ℕ × Row) → Type 0 = λ rows. HasChildren rows cells in
    subst H (sym (with_row-alone es id row grove.own_numbers there alone)) children

-- the number of a parent, a child or a root is live
pub parent_id-live : (es : List (ℕ × Row)) (id key : ℕ) → parent_id (widgets_in es) id ≡ Some key → is_some (row_at es key) ≡ true
parent_id-live es id key h = by (row_at es id) h
  where
    at : (row : Row) (attached : Option (List ℕ × Cell)) → option_and_then (λ (s : List ℕ × Cell). id_named (nodes es) row.client s.0) attached ≡ Some key → is_some (row_at es key) ≡ true
    at row None k = absurd (cc)
    at row (Some s) k = row_at-named es row.client s.0 key k

    by : (o : Option Row) → option_and_then (λ (row : Row). option_and_then (λ (s : List ℕ × Cell). id_named (nodes es) row.client s.0) row.attached) o ≡ Some key → is_some (row_at es key) ≡ true
    by None k = absurd (cc)
    by (Some row) k = at row row.attached k

pub child_id-live : (es : List (ℕ × Row)) (id column line key : ℕ) → IsGrove es → child_id (widgets_in es) id column line ≡ Some key → is_some (row_at es key) ≡ true
child_id-live es id column line key grove h = ap is_some (child_id-hangs es key id column line grove h).lower_there

pub root_id-live : (es : List (ℕ × Row)) (id key : ℕ) → root_id (widgets_in es) id ≡ Some key → is_some (row_at es key) ≡ true
root_id-live es id key h = by (row_at es id) h
  where
    by : (o : Option Row) → option_and_then (λ (row : Row). id_named (nodes es) row.client (root_of (rows_in es) row.client row.name)) o ≡ Some key → is_some (row_at es key) ≡ true
    by None k = absurd (cc)
    by (Some row) k = row_at-named es row.client (root_of (rows_in es) row.client row.name) key k

-- The ways down a tree: the widgets in the cells of one are its children, and their heights make its own.
use Rattle.std.proofs.Common.{◌≡◌, ℕ, suc, ◌+◌, ◌-◌, ◌*◌, ◌/◌, ◌%◌, ◌<◌, ◌≤◌, ◌⊎◌, inl, inr, max, nat_lt, Bool, true, false, cond, nat_eq, List, get_or, Option, Some, None, refl, sym, ap, ◌∙◌, slice_get, arith, is_lt}
use Rattle.std.proofs.lemmas.Bool.{true≢false, eqb-true, eq-eqb, and_parts, and_from, cases_lt, ltb-true, ltb-false}
use Rattle.std.proofs.lemmas.Slice.Eq.{bytes_eq-Decides}
use Rattle.std.specs.Cmp.Lexicographic.{nat_list_eq_equiv}
use Rattle.std.specs.List.{list_any}
use Rattle.std.specs.Option.{option_map_or, option_map}
use Rattle.std.specs.Ordering.{ord_max, nat_cmp}
use Rattle.std.specs.Str.{bytes_eq}
use Rattle.std.specs.declared.cmp.Ordering.TheVariants.{Less, Equal, Greater}
use Rattle.kind_core.specs.declared.shapes.Cell.{Cell}
use Rattle.widget_model.specs.Rows.{Row}
use Rattle.widget_model.specs.Trees.{is_child, height_in, greatest_child}
use Rattle.widget_model.specs.Relatives.{child_id}
use Rattle.widget_model.specs.Widgets.{row_at}
use Rattle.widget_model.specs.Widgets.{rows_in}
use Rattle.tree_core.specs.Children.{cells_of, widgets_in, HasChildren}
use Rattle.row_store.specs.CellTable.{cell_offset}
use Rattle.widget_model.specs.Rows.{IsIndex}
use Rattle.tree_core.specs.Kept.{IsGrove}
use Rattle.tree_core.proofs.Listed.{listed_number, numbered_place, any_at, any_place}
use Rattle.tree_core.proofs.Children.{child_id-hangs, hangs-child_id, attached-hangs, HangsUnder-HangsAt, own_number}
use Rattle.widget_model.proofs.Levels.{greatest_child-each, greatest_child-most}

-- a numbered row that is a child of another
pub record IsChildRow (es : List (ℕ × Row)) (upper : Row) (below : ℕ) : Type 0 where
  pub lower : Row
  pub lower_there : row_at es below ≡ Some lower
  pub place : ℕ
  pub placed : slice_get (rows_in es) place ≡ Some lower
  pub owner : lower.client ≡ upper.client
  pub is : is_child upper.client upper.name lower ≡ true

-- the number in a cell is a child's
pub cell-child : (es : List (ℕ × Row)) (cells : List (Option ℕ)) (above index below : ℕ) (upper : Row) → IsGrove es → HasChildren es cells → row_at es above ≡ Some upper → index < 256 → get_or cells (above * 256 + index) None ≡ Some below → IsChildRow es upper below
cell-child es cells above index below upper grove children there less found =
    let column : ℕ = index / 16 + 1 in
    let line : ℕ = index % 16 + 1 in
    let column_in : IsIndex column = (omega arith, omega arith) in
    let line_in : IsIndex line = (omega arith, omega arith) in
    let place : cell_offset above column line ≡ above * 256 + index = omega arith in
    let number : child_id (widgets_in es) above column line ≡ Some below = sym (children.each above column line column_in line_in) ∙ ap (λ (n : ℕ). get_or cells n None) place ∙ found in
    let h = child_id-hangs es below above column line grove number in
    let same : h.upper ≡ upper = let one : Some h.upper ≡ Some upper = sym h.upper_there ∙ there in cc in
    let owner : h.lower.client ≡ upper.client = h.owner ∙ ap (λ (row : Row). row.client) same in
    let attached : h.lower.attached ≡ Some (upper.name, h.cell) = h.attached ∙ ap (λ (row : Row). Some (row.name, h.cell)) same in
    let at = numbered_place es below h.lower h.lower_there in
    record {
      lower = h.lower;
      lower_there = h.lower_there;
      place = at.0;
      placed = at.1;
      owner = owner;
      is = and_from (nat_eq upper.client h.lower.client) (option_map_or (λ (s : List ℕ × Cell). bytes_eq upper.name s.0) h.lower.attached false) (eq-eqb upper.client h.lower.client (sym owner)) (ap (λ (s : Option (List ℕ × Cell)). option_map_or (λ (s : List ℕ × Cell). bytes_eq upper.name s.0) s false) attached ∙ nat_list_eq_equiv.refl upper.name);
    }

-- and each child's number is in one of the cells
pub record IsInCell (es : List (ℕ × Row)) (cells : List (Option ℕ)) (above : ℕ) (upper lower : Row) : Type 0 where
  pub index : ℕ
  pub below : ℕ
  pub within : index < cells_of upper.kind
  pub there : get_or cells (above * 256 + index) None ≡ Some below
  pub lower_there : row_at es below ≡ Some lower

-- a child's attached names its parent
child-attached : (lower : Row) (client : ℕ) (name : List ℕ) → is_child client name lower ≡ true → (cell : Cell) × (lower.attached ≡ Some (name, cell)) × (lower.client ≡ client)
child-attached lower client name h =
    let parts = and_parts (nat_eq client lower.client) (option_map_or (λ (s : List ℕ × Cell). bytes_eq name s.0) lower.attached false) h in
    by lower.attached refl (sym (eqb-true client lower.client parts.0)) parts.1
  where
    by : (attached : Option (List ℕ × Cell)) → lower.attached ≡ attached → lower.client ≡ client → option_map_or (λ (s : List ℕ × Cell). bytes_eq name s.0) attached false ≡ true → (cell : Cell) × (lower.attached ≡ Some (name, cell)) × (lower.client ≡ client)
    by None q owner k = absurd (true≢false (sym k))
    by (Some s) q owner k = (s.1, q ∙ ap (λ (n : List ℕ). Some (n, s.1)) (sym ((bytes_eq-Decides name s.0).0 k)), owner)

pub child-cell : (es : List (ℕ × Row)) (cells : List (Option ℕ)) (above place : ℕ) (upper lower : Row) → IsGrove es → HasChildren es cells → row_at es above ≡ Some upper → slice_get (rows_in es) place ≡ Some lower → is_child upper.client upper.name lower ≡ true → IsInCell es cells above upper lower
child-cell es cells above place upper lower grove children there placed is =
    let number = listed_number es place lower grove.own_numbers placed in
    let attached = child-attached lower upper.client upper.name is in
    let h = attached-hangs es number.0 lower upper.name attached.0 grove number.1 attached.1 in
    let same : above ≡ h.number = own_number es above h.number upper h.upper grove there h.upper_there (sym attached.2 ∙ h.owner) (sym h.named) in
    let one : upper ≡ h.upper = let q : Some upper ≡ Some h.upper = sym there ∙ ap (row_at es) same ∙ h.upper_there in cc in
    let index : ℕ = (attached.0.column - 1) * 16 + (attached.0.row - 1) in
    let found = children.each h.number attached.0.column attached.0.row h.cell_is.column h.cell_is.line ∙ hangs-child_id es number.0 h.number attached.0.column attached.0.row grove (HangsUnder-HangsAt es number.0 lower upper.name attached.0 number.1 attached.1 h) in
    let at : above * 256 + index ≡ cell_offset h.number attached.0.column attached.0.row = rw same (omega arith) in
    record {
      index = index;
      below = number.0;
      within = let kinds : cells_of h.upper.kind ≡ cells_of upper.kind = ap (λ (row : Row). cells_of row.kind) (sym one) in omega (arith, h.cell_is.within, kinds);
      there = ap (λ (n : ℕ). get_or cells n None) at ∙ found;
      lower_there = number.1;
    }

-- A widget has a child exactly where one of its cells has a number.
pub any-child : (es : List (ℕ × Row)) (cells : List (Option ℕ)) (above index below : ℕ) (upper : Row) → IsGrove es → HasChildren es cells → row_at es above ≡ Some upper → index < 256 → get_or cells (above * 256 + index) None ≡ Some below → list_any (is_child upper.client upper.name) (rows_in es) ≡ true
any-child es cells above index below upper grove children there less found =
    let child = cell-child es cells above index below upper grove children there less found in
    any_at (is_child upper.client upper.name) (rows_in es) child.place child.lower child.placed child.is

pub no-child : (es : List (ℕ × Row)) (cells : List (Option ℕ)) (above : ℕ) (upper : Row) → IsGrove es → HasChildren es cells → row_at es above ≡ Some upper → ((index : ℕ) → index < cells_of upper.kind → get_or cells (above * 256 + index) None ≡ None) → list_any (is_child upper.client upper.name) (rows_in es) ≡ false
no-child es cells above upper grove children there empty = by (list_any (is_child upper.client upper.name) (rows_in es)) refl
  where
    by : (b : Bool) → list_any (is_child upper.client upper.name) (rows_in es) ≡ b → b ≡ false
    by false q = refl
    by true q =
        let at = any_place (is_child upper.client upper.name) (rows_in es) q in
        let cell = child-cell es cells above at.0 upper at.1 grove children there at.2 at.3 in
        absurd (let none : None ≡ Some cell.below = sym (empty cell.index cell.within) ∙ cell.there in cc)

-- What the greatest height of the children in the first cells is.
pub record IsGreatest (es : List (ℕ × Row)) (cells : List (Option ℕ)) (most above index greatest : ℕ) : Type 0 where
  pub within : greatest ≤ most
  pub no_more : (upper : Row) → row_at es above ≡ Some upper → greatest ≤ greatest_child (height_in most (rows_in es) upper.client) upper.client upper.name (rows_in es)
  pub no_less : (k below : ℕ) (lower : Row) → k < index → get_or cells (above * 256 + k) None ≡ Some below → row_at es below ≡ Some lower → height_in most (rows_in es) lower.client lower.name ≤ greatest

pub IsGreatest-none : (es : List (ℕ × Row)) (cells : List (Option ℕ)) (most above : ℕ) → IsGreatest es cells most above 0 0
IsGreatest-none es cells most above = record { within = omega arith; no_more = λ upper there. omega arith; no_less = λ k below lower less. absurd (omega arith) }

module _ (es : List (ℕ × Row)) (cells : List (Option ℕ)) (most above index greatest : ℕ) (h : IsGreatest es cells most above index greatest) where
  -- one more cell, empty or with a child
  one_more : (more : ℕ) → greatest ≤ more → ((below : ℕ) (lower : Row) → get_or cells (above * 256 + index) None ≡ Some below → row_at es below ≡ Some lower → height_in most (rows_in es) lower.client lower.name ≤ more) → (k below : ℕ) (lower : Row) → k < index + 1 → get_or cells (above * 256 + k) None ≡ Some below → row_at es below ≡ Some lower → height_in most (rows_in es) lower.client lower.name ≤ more
  one_more more longer last k below lower less found there = by (cases_lt k index)
    where
      by : (k < index) ⊎ (index ≤ k) → height_in most (rows_in es) lower.client lower.name ≤ more
      by (inl q) = let old = h.no_less k below lower q found there in omega (arith, old)
      by (inr q) =
          let same : k ≡ index = omega arith in
          last below lower (ap (λ (n : ℕ). get_or cells (above * 256 + n) None) (sym same) ∙ found) there

  pub IsGreatest-empty : get_or cells (above * 256 + index) None ≡ None → IsGreatest es cells most above (index + 1) greatest
  IsGreatest-empty empty =
      record { within = h.within; no_more = h.no_more; no_less = one_more greatest (omega arith) (λ below lower found there. absurd (let none : None ≡ Some below = sym empty ∙ found in cc)) }

  pub IsGreatest-child : (child height : ℕ) → IsGrove es → HasChildren es cells → index < 256 → get_or cells (above * 256 + index) None ≡ Some child → option_map (λ (row : Row). height_in most (rows_in es) row.client row.name) (row_at es child) ≡ Some height → height ≤ most → IsGreatest es cells most above (index + 1) (max greatest height)
  IsGreatest-child child height grove children bound there is low =
      record { within = omega (arith, h.within); no_more = λ upper at. no_more upper at; no_less = one_more (max greatest height) (omega arith) (λ below lower found at. omega (arith, last below lower found at)) }
    where
      own : (lower : Row) → row_at es child ≡ Some lower → height_in most (rows_in es) lower.client lower.name ≡ height
      own lower at = let one : Some (height_in most (rows_in es) lower.client lower.name) ≡ Some height = ap (option_map (λ (row : Row). height_in most (rows_in es) row.client row.name)) (sym at) ∙ is in cc

      last : (below : ℕ) (lower : Row) → get_or cells (above * 256 + index) None ≡ Some below → row_at es below ≡ Some lower → height_in most (rows_in es) lower.client lower.name ≡ height
      last below lower found at =
          let one : Some child ≡ Some below = sym there ∙ found in
          let number : child ≡ below = cc in
          own lower (ap (row_at es) number ∙ at)

      no_more : (upper : Row) → row_at es above ≡ Some upper → max greatest height ≤ greatest_child (height_in most (rows_in es) upper.client) upper.client upper.name (rows_in es)
      no_more upper at =
          let row = cell-child es cells above index child upper grove children at bound there in
          let each = greatest_child-each (height_in most (rows_in es) upper.client) upper.client upper.name (rows_in es) row.place row.lower row.placed row.is in
          let client : height_in most (rows_in es) row.lower.client row.lower.name ≡ height_in most (rows_in es) upper.client row.lower.name = ap (λ (n : ℕ). height_in most (rows_in es) n row.lower.name) row.owner in
          let same = own row.lower row.lower_there in
          let old = h.no_more upper at in
          omega (arith, each, client, same, old)

-- the greater of two numbers, as `max` of an order gives it
pub ord_max-nat : (a b : ℕ) → ord_max nat_cmp a b ≡ max a b
ord_max-nat a b = by (nat_lt b a) (nat_eq b a) refl
  where
    by : (t e : Bool) → nat_lt b a ≡ t → cond (is_lt (cond t Less (cond e Equal Greater))) a b ≡ max a b
    by true e q = omega (arith, ltb-true b a q)
    by false true q = omega (arith, ltb-false b a q)
    by false false q = omega (arith, ltb-false b a q)

-- all cells give the height
pub IsGreatest-height : (es : List (ℕ × Row)) (cells : List (Option ℕ)) (most above greatest : ℕ) (upper : Row) → IsGrove es → HasChildren es cells → row_at es above ≡ Some upper → IsGreatest es cells most above (cells_of upper.kind) greatest → height_in (suc most) (rows_in es) upper.client upper.name ≡ 1 + greatest
IsGreatest-height es cells most above greatest upper grove children there h =
    let low = h.no_more upper there in
    let high = greatest_child-most (height_in most (rows_in es) upper.client) upper.client upper.name (rows_in es) greatest (λ place lower placed is. each place lower placed is) in
    let same : greatest_child (height_in most (rows_in es) upper.client) upper.client upper.name (rows_in es) ≡ greatest = omega (arith, low, high) in
    ap (λ (n : ℕ). 1 + n) same
  where
    each : (place : ℕ) (lower : Row) → slice_get (rows_in es) place ≡ Some lower → is_child upper.client upper.name lower ≡ true → height_in most (rows_in es) upper.client lower.name ≤ greatest
    each place lower placed is =
        let cell = child-cell es cells above place upper lower grove children there placed is in
        let no_less = h.no_less cell.index cell.below lower cell.within cell.there cell.lower_there in
        let owner = (child-attached lower upper.client upper.name is).2 in
        let client : height_in most (rows_in es) lower.client lower.name ≡ height_in most (rows_in es) upper.client lower.name = ap (λ (n : ℕ). height_in most (rows_in es) n lower.name) owner in
        omega (arith, no_less, client)

-- Which widget hangs in which cell of which, said of the numbered rows.
use Rattle.std.proofs.Common.{◌≡◌, ℕ, ◌+◌, ◌-◌, ◌*◌, ◌<◌, true, false, ◌&&◌, nat_eq, List, Option, Some, None, refl, sym, ap, ◌∙◌, arith}
use Rattle.std.proofs.lemmas.Bool.{true≢false, and_parts}
use Rattle.std.proofs.lemmas.Bool.Decides.{nat_tests}
use Rattle.std.specs.Option.{option_map_or, option_and_then}
use Rattle.kind_core.specs.declared.kinds.Kind.{Kind}
use Rattle.kind_core.specs.declared.kinds.Kind.TheVariants.{Window, Grid, Frame}
use Rattle.kind_core.specs.declared.shapes.Cell.{Cell}
use Rattle.widget_model.specs.Rows.{Row}
use Rattle.widget_model.specs.Nodes.{id_named}
use Rattle.widget_model.specs.Named.{row_named}
use Rattle.widget_model.specs.Trees.{can_be_child, child_in, stands_at}
use Rattle.widget_model.specs.Planted.{has_cell, takes_cell, is_cell, hangs_right}
use Rattle.widget_model.specs.Relatives.{child_id}
use Rattle.widget_model.specs.Widgets.{row_at, nodes}
use Rattle.widget_model.proofs.Naming.{row_named-found, row_named-none, id_named-row, row_named-parts}
use Rattle.widget_model.specs.Rows.{IsIndex}
use Rattle.widget_model.specs.Widgets.{rows_in}
use Rattle.tree_core.specs.Children.{cells_of, widgets_in}
use Rattle.tree_core.specs.Kept.{IsGrove}
use Rattle.widget_model.proofs.Hanging.{all_at}
use Rattle.tree_core.proofs.Listed.{find_place, listed_number, numbered_place}
use Rattle.widget_model.proofs.Cells.{child_in-stands, child_in-own}

-- the lower of two numbered rows hangs in the upper, in that column and row
pub record HangsAt (es : List (ℕ × Row)) (below above column line : ℕ) : Type 0 where
  pub upper : Row
  pub lower : Row
  pub upper_there : row_at es above ≡ Some upper
  pub lower_there : row_at es below ≡ Some lower
  pub owner : lower.client ≡ upper.client
  pub cell : Cell
  pub attached : lower.attached ≡ Some (upper.name, cell)
  pub column_is : cell.column ≡ column
  pub line_is : cell.row ≡ line

-- the number of a row is the one of its name
number-of_name : (es : List (ℕ × Row)) (id : ℕ) (client : ℕ) (name : List ℕ) (row : Row) → IsGrove es → id_named (nodes es) client name ≡ Some id → row_named (rows_in es) client name ≡ Some row → row_at es id ≡ Some row
number-of_name es id client name row grove found there = sym (row_named-found es client name id grove.own_numbers found) ∙ there

-- what is found in a cell hangs there
pub child_in-number : (es : List (ℕ × Row)) (client : ℕ) (name : List ℕ) (column line : ℕ) (child : Row) → IsGrove es → child_in (rows_in es) client name column line ≡ Some child → (id : ℕ) × (row_at es id ≡ Some child) × (id_named (nodes es) child.client child.name ≡ Some id)
child_in-number es client name column line child grove found =
    let place = find_place (stands_at client name column line) (rows_in es) child found in
    let number = listed_number es place.0 child grove.own_numbers place.1 in
    (number.0, number.1, id_named-row es number.0 child grove.own_names number.1)

pub child_id-hangs : (es : List (ℕ × Row)) (below above column line : ℕ) → IsGrove es → child_id (widgets_in es) above column line ≡ Some below → HangsAt es below above column line
child_id-hangs es below above column line grove h = by (row_at es above) refl h
  where
    at : (upper : Row) → row_at es above ≡ Some upper → (o : Option Row) → child_in (rows_in es) upper.client upper.name column line ≡ o → option_and_then (λ (child : Row). id_named (nodes es) child.client child.name) o ≡ Some below → HangsAt es below above column line
    at upper there None q k = absurd (cc)
    at upper there (Some child) q k =
        let number = child_in-number es upper.client upper.name column line child grove q in
        let same : number.0 ≡ below = cc in
        let stands = child_in-stands (rows_in es) upper.client upper.name column line child q in
        record {
          upper = upper;
          lower = child;
          upper_there = there;
          lower_there = ap (row_at es) (sym same) ∙ number.1;
          owner = stands.owner;
          cell = stands.cell;
          attached = stands.attached;
          column_is = stands.column_is;
          line_is = stands.line_is;
        }

    by : (o : Option Row) → row_at es above ≡ o → option_and_then (λ (row : Row). option_and_then (λ (child : Row). id_named (nodes es) child.client child.name) (child_in (rows_in es) row.client row.name column line)) o ≡ Some below → HangsAt es below above column line
    by None q k = absurd (cc)
    by (Some upper) q k = at upper q (child_in (rows_in es) upper.client upper.name column line) refl k

-- and what hangs there is found
pub child_in-hangs : (es : List (ℕ × Row)) (below above column line : ℕ) → IsGrove es → (h : HangsAt es below above column line) → child_in (rows_in es) h.upper.client h.upper.name column line ≡ Some h.lower
child_in-hangs es below above column line grove h =
    let place = numbered_place es below h.lower h.lower_there in
    let own = child_in-own (rows_in es) place.0 h.lower h.upper.name h.cell grove.planted.own_cells place.1 h.attached in
    rw (← h.owner, ← h.column_is, ← h.line_is) own

pub hangs-child_id : (es : List (ℕ × Row)) (below above column line : ℕ) → IsGrove es → HangsAt es below above column line → child_id (widgets_in es) above column line ≡ Some below
hangs-child_id es below above column line grove h =
    let found = child_in-hangs es below above column line grove h in
    let number : id_named (nodes es) h.lower.client h.lower.name ≡ Some below = id_named-row es below h.lower grove.own_names h.lower_there in
    rw (h.upper_there, found) number

-- a cell without a number is free
pub child_in-free : (es : List (ℕ × Row)) (above column line : ℕ) (upper : Row) → IsGrove es → row_at es above ≡ Some upper → child_id (widgets_in es) above column line ≡ None → child_in (rows_in es) upper.client upper.name column line ≡ None
child_in-free es above column line upper grove there empty =
    by (child_in (rows_in es) upper.client upper.name column line) refl
    (sym (ap (option_and_then (λ (row : Row). option_and_then (λ (child : Row). id_named (nodes es) child.client child.name) (child_in (rows_in es) row.client row.name column line))) there) ∙ empty)
  where
    by : (o : Option Row) → child_in (rows_in es) upper.client upper.name column line ≡ o → option_and_then (λ (child : Row). id_named (nodes es) child.client child.name) o ≡ None → o ≡ None
    by None q k = refl
    by (Some child) q k = let number = child_in-number es upper.client upper.name column line child grove q in absurd (cc)

-- two rows of one client and name have one number
pub own_number : (es : List (ℕ × Row)) (a b : ℕ) (x y : Row) → IsGrove es → row_at es a ≡ Some x → row_at es b ≡ Some y → x.client ≡ y.client → x.name ≡ y.name → a ≡ b
own_number es a b x y grove at_a at_b client name =
    let p : id_named (nodes es) x.client x.name ≡ Some a = id_named-row es a x grove.own_names at_a in
    let q : id_named (nodes es) y.client y.name ≡ Some b = id_named-row es b y grove.own_names at_b in
    let r : id_named (nodes es) y.client y.name ≡ Some a = rw (← client, ← name) p in
    let s : Some a ≡ Some b = sym r ∙ q in
    cc

-- a cell that a widget has is in column and row 1 to 16, and is one of the cells of its kind
pub record IsCellOf (kind : Kind) (cell : Cell) : Type 0 where
  pub column : IsIndex cell.column
  pub line : IsIndex cell.row
  pub within : (cell.column - 1) * 16 + (cell.row - 1) < cells_of kind

is_cell-index : (cell : Cell) → is_cell cell ≡ true → IsIndex cell.column × IsIndex cell.row
is_cell-index cell h = ((grind (arith, nat_tests), grind (arith, nat_tests)), (grind (arith, nat_tests), grind (arith, nat_tests)))

one_cell : (cell : Cell) → (is_cell cell && (nat_eq cell.column 1 && nat_eq cell.row 1)) ≡ true → IsIndex cell.column × IsIndex cell.row × ((cell.column - 1) * 16 + (cell.row - 1) < 1)
one_cell cell h = ((grind (arith, nat_tests), grind (arith, nat_tests)), (grind (arith, nat_tests), grind (arith, nat_tests)), grind (arith, nat_tests))

pub has_cell-IsCellOf : (kind : Kind) (cell : Cell) → has_cell kind cell ≡ true → IsCellOf kind cell
has_cell-IsCellOf Window cell h = let i = one_cell cell h in record { column = i.0; line = i.1; within = i.2 }
has_cell-IsCellOf Frame cell h = let i = one_cell cell h in record { column = i.0; line = i.1; within = i.2 }
has_cell-IsCellOf Grid cell h =
    let i = is_cell-index cell h in
    record { column = i.0; line = i.1; within = omega (arith, i.0.1, i.1.1) }
has_cell-IsCellOf _ cell h = absurd (true≢false (sym h))

pub takes_cell-index : (kind : Kind) (cell : Cell) → takes_cell kind cell ≡ true → IsIndex cell.column × IsIndex cell.row
takes_cell-index Window cell h = let i = one_cell cell h in (i.0, i.1)
takes_cell-index Frame cell h = let i = one_cell cell h in (i.0, i.1)
takes_cell-index _ cell h = is_cell-index cell h

-- what a row that hangs says of the one that it hangs in
pub record HangsUnder (es : List (ℕ × Row)) (lower : Row) (name : List ℕ) (cell : Cell) : Type 0 where
  pub number : ℕ
  pub upper : Row
  pub upper_there : row_at es number ≡ Some upper
  pub owner : lower.client ≡ upper.client
  pub named : upper.name ≡ name
  pub numbered : id_named (nodes es) lower.client name ≡ Some number
  pub cell_is : IsCellOf upper.kind cell

pub attached-hangs : (es : List (ℕ × Row)) (id : ℕ) (lower : Row) (name : List ℕ) (cell : Cell) → IsGrove es → row_at es id ≡ Some lower → lower.attached ≡ Some (name, cell) → HangsUnder es lower name cell
attached-hangs es id lower name cell grove there attached =
    let place = numbered_place es id lower there in
    let right : hangs_right (rows_in es) lower ≡ true = all_at (hangs_right (rows_in es)) (rows_in es) place.0 lower grove.planted.hang place.1 in
    let test : (can_be_child lower.kind && option_map_or (λ (parent : Row). has_cell parent.kind cell) (row_named (rows_in es) lower.client name) false) ≡ true = rw attached at right in
    let parts = and_parts (can_be_child lower.kind) (option_map_or (λ (parent : Row). has_cell parent.kind cell) (row_named (rows_in es) lower.client name) false) test in
    by (row_named (rows_in es) lower.client name) refl (id_named (nodes es) lower.client name) refl parts.1
  where
    by : (o : Option Row) → row_named (rows_in es) lower.client name ≡ o → (n : Option ℕ) → id_named (nodes es) lower.client name ≡ n → option_map_or (λ (parent : Row). has_cell parent.kind cell) o false ≡ true → HangsUnder es lower name cell
    by None q n r h = absurd (true≢false (sym h))
    by (Some upper) q None r h = absurd (let none = row_named-none es lower.client name r in cc)
    by (Some upper) q (Some n) r h =
        let parts = row_named-parts (rows_in es) lower.client name upper q in
        record {
          number = n;
          upper = upper;
          upper_there = number-of_name es n lower.client name upper grove r q;
          owner = sym parts.0;
          named = parts.1;
          numbered = r;
          cell_is = has_cell-IsCellOf upper.kind cell h;
        }

-- so it hangs there
pub HangsUnder-HangsAt : (es : List (ℕ × Row)) (id : ℕ) (lower : Row) (name : List ℕ) (cell : Cell) → row_at es id ≡ Some lower → lower.attached ≡ Some (name, cell) → (h : HangsUnder es lower name cell) → HangsAt es id h.number cell.column cell.row
HangsUnder-HangsAt es id lower name cell there attached h =
    record {
      upper = h.upper;
      lower = lower;
      upper_there = h.upper_there;
      lower_there = there;
      owner = h.owner;
      cell = cell;
      attached = attached ∙ ap (λ (n : List ℕ). Some (n, cell)) (sym h.named);
      column_is = refl;
      line_is = refl;
    }

-- nothing hangs outside columns and rows 1 to 16
pub child_id-outside : (es : List (ℕ × Row)) (above column line : ℕ) → IsGrove es → (IsIndex column → IsIndex line → ⊥) → child_id (widgets_in es) above column line ≡ None
child_id-outside es above column line grove outside = by (child_id (widgets_in es) above column line) refl
  where
    by : (o : Option ℕ) → child_id (widgets_in es) above column line ≡ o → o ≡ None
    by None q = refl
    by (Some below) q =
        let h = child_id-hangs es below above column line grove q in
        let cell = (attached-hangs es below h.lower h.upper.name h.cell grove h.lower_there h.attached).cell_is in
        absurd (outside (rw (← h.column_is) cell.column) (rw (← h.line_is) cell.line))

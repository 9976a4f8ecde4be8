-- The options of `place` that aren't refused give a cell that the parent has.
use Rattle.std.proofs.Common.{◌≡◌, ◌≤◌, ℕ, ℤ, pos, true, List, [], ◌∷◌, map, None, refl, sym, ap, ◌∙◌, arith}
use Rattle.std.proofs.lemmas.Bool.{le-leb, eq-eqb, and_from}
use Rattle.kind_core.specs.declared.kinds.Kind.{Kind}
use Rattle.kind_core.specs.declared.kinds.Kind.TheVariants.{Window, Grid, Frame}
use Rattle.kind_core.specs.declared.shapes.Cell.{Cell}
use Rattle.cmd_words.specs.declared.commands.PlaceOption.{PlaceOption}
use Rattle.cmd_words.specs.declared.commands.PlaceOption.TheVariants.{Column, Row, Pad}
use Rattle.widget_model.specs.Planted.{is_cell, takes_cell}
use Rattle.desk_model.specs.PlaceOptions.{unless_within, last_cell, cell_option_refusal, cell_options_refusal, first_cell, with_cell_option, with_cell_options, cell_given}
use Rattle.desk_model.proofs.Refusals.{passed, unless_within-none}

last : Kind → ℕ
last Grid = 16
last _ = 1

last_cell-last : (kind : Kind) → last_cell kind ≡ pos (last kind)
unfolding last
last_cell-last Grid = refl
last_cell-last _ = refl

-- a cell whose numbers are within those of the kind
record IsWithin (kind : Kind) (cell : Cell) : Type 0 where
  column : (1 ≤ cell.column) × (cell.column ≤ last kind)
  line : (1 ≤ cell.row) × (cell.row ≤ last kind)
  pad : cell.pad ≤ 16

option_within : (kind : Kind) (option : PlaceOption × ℤ) (cell : Cell) → cell_option_refusal kind option ≡ None → IsWithin kind cell → IsWithin kind (with_cell_option option cell)
option_within kind (Column, n) cell h old = record { column = unless_within-none 1 (last kind) n (ap (λ (z : ℤ). unless_within (pos 1) z n) (sym (last_cell-last kind)) ∙ h); line = old.line; pad = old.pad }
option_within kind (Row, n) cell h old = record { column = old.column; line = unless_within-none 1 (last kind) n (ap (λ (z : ℤ). unless_within (pos 1) z n) (sym (last_cell-last kind)) ∙ h); pad = old.pad }
option_within kind (Pad, n) cell h old = record { column = old.column; line = old.line; pad = (unless_within-none 0 16 n h).1 }

options_within : (kind : Kind) (options : List (PlaceOption × ℤ)) (cell : Cell) → cell_options_refusal kind options ≡ None → IsWithin kind cell → IsWithin kind (with_cell_options options cell)
options_within kind [] cell none old = old
options_within kind (option ∷ options) cell none old =
    let parts = passed (cell_option_refusal kind option) (map (cell_option_refusal kind) options) none in
    options_within kind options (with_cell_option option cell) parts.1 (option_within kind option cell parts.0 old)

first_within : (kind : Kind) → IsWithin kind first_cell
unfolding last
first_within Grid = record { column = (omega arith, omega arith); line = (omega arith, omega arith); pad = omega arith }
first_within _ = record { column = (omega arith, omega arith); line = (omega arith, omega arith); pad = omega arith }

is_cell-from : (cell : Cell) → 1 ≤ cell.column → cell.column ≤ 16 → 1 ≤ cell.row → cell.row ≤ 16 → cell.pad ≤ 16 → is_cell cell ≡ true
is_cell-from cell a b c d e = and_from _ _ (and_from _ _ (le-leb 1 cell.column a) (le-leb cell.column 16 b)) (and_from _ _ (and_from _ _ (le-leb 1 cell.row c) (le-leb cell.row 16 d)) (le-leb cell.pad 16 e))

takes_cell-within : (kind : Kind) (cell : Cell) → IsWithin kind cell → takes_cell kind cell ≡ true
unfolding last
takes_cell-within Window cell w = and_from _ _ (is_cell-from cell w.column.0 (omega (arith, w.column.1)) w.line.0 (omega (arith, w.line.1)) w.pad) (and_from _ _ (eq-eqb cell.column 1 (omega (arith, w.column.0, w.column.1))) (eq-eqb cell.row 1 (omega (arith, w.line.0, w.line.1))))
takes_cell-within Frame cell w = and_from _ _ (is_cell-from cell w.column.0 (omega (arith, w.column.1)) w.line.0 (omega (arith, w.line.1)) w.pad) (and_from _ _ (eq-eqb cell.column 1 (omega (arith, w.column.0, w.column.1))) (eq-eqb cell.row 1 (omega (arith, w.line.0, w.line.1))))
takes_cell-within Grid cell w = is_cell-from cell w.column.0 w.column.1 w.line.0 w.line.1 w.pad
takes_cell-within _ cell w = is_cell-from cell w.column.0 (omega (arith, w.column.1)) w.line.0 (omega (arith, w.line.1)) w.pad

pub takes_cell-given : (kind : Kind) (options : List (PlaceOption × ℤ)) → cell_options_refusal kind options ≡ None → takes_cell kind (cell_given options) ≡ true
takes_cell-given kind options none = takes_cell-within kind (cell_given options) (options_within kind options first_cell none (first_within kind))

-- The options of `place`, which give the cell and the pad: each is checked from left to right; of a repeated one the last counts.
use Rattle.std.specs.Prelude.{ℤ, pos, not, List, [], ◌∷◌, Option, unsigned_abs, map}
use Rattle.kind_core.specs.declared.kinds.Kind.{Kind}
use Rattle.kind_core.specs.declared.kinds.Kind.TheVariants.{Grid}
use Rattle.kind_core.specs.declared.shapes.Cell.{Cell}
use Rattle.kind_core.specs.Attributes.{in_range}
use Rattle.cmd_words.specs.declared.commands.PlaceOption.{PlaceOption}
use Rattle.cmd_words.specs.declared.commands.PlaceOption.TheVariants.{Column, Row, Pad}
use Rattle.cmd_words.specs.declared.replies.Refusal.{Refusal}
use Rattle.cmd_words.specs.declared.replies.Refusal.TheVariants.{BadValue}
use Rattle.desk_model.specs.Refusals.{when, first_refusal}

-- the number is outside its range
abbrev pub unless_within : ℤ → ℤ → ℤ → Option Refusal
unless_within least greatest n = when (not (in_range least greatest n)) (BadValue least greatest)

-- A Grid has 16 columns and 16 rows, a Window or Frame one.
abbrev pub last_cell : Kind → ℤ
last_cell Grid = pos 16
last_cell _ = pos 1

-- A pad is at most 16 pixels.
abbrev pub cell_option_refusal : Kind → PlaceOption × ℤ → Option Refusal
cell_option_refusal kind (Column, n) = unless_within (pos 1) (last_cell kind) n
cell_option_refusal kind (Row, n) = unless_within (pos 1) (last_cell kind) n
cell_option_refusal kind (Pad, n) = unless_within (pos 0) (pos 16) n

abbrev pub cell_options_refusal : Kind → List (PlaceOption × ℤ) → Option Refusal
cell_options_refusal kind options = first_refusal (map (cell_option_refusal kind) options)

-- column 1, row 1 and no pad, where nothing else is given
abbrev pub first_cell : Cell
first_cell = record { column = 1; row = 1; pad = 0 }

abbrev pub with_cell_option : PlaceOption × ℤ → Cell → Cell
with_cell_option (Column, n) cell = record cell { column = unsigned_abs n }
with_cell_option (Row, n) cell = record cell { row = unsigned_abs n }
with_cell_option (Pad, n) cell = record cell { pad = unsigned_abs n }

abbrev pub with_cell_options : List (PlaceOption × ℤ) → Cell → Cell
with_cell_options [] cell = cell
with_cell_options (option ∷ options) cell = with_cell_options options (with_cell_option option cell)

abbrev pub cell_given : List (PlaceOption × ℤ) → Cell
cell_given options = with_cell_options options first_cell

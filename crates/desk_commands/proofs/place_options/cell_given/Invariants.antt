-- what the options that weren't looked at make of the cell
use Rattle.std.proofs.Common.{◌≡◌, drop}
use Rattle.desk_model.specs.PlaceOptions.{cell_given, with_cell_options}
use Rattle.desk_commands.proofs.place_options.cell_given.Given as goal

abbrev pub invariant-loop-option : goal.invariant-loop-option
invariant-loop-option l = cell_given l.options ≡ with_cell_options (drop l.option-index l.options) l.cell

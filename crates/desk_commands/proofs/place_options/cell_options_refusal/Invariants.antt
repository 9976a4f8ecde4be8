-- the first refusal is among the options that weren't looked at
use Rattle.std.proofs.Common.{◌≡◌, drop}
use Rattle.desk_model.specs.PlaceOptions.{cell_options_refusal}
use Rattle.desk_commands.proofs.place_options.cell_options_refusal.Given as goal

abbrev pub invariant-loop-option : goal.invariant-loop-option
invariant-loop-option l = cell_options_refusal l.kind l.options ≡ cell_options_refusal l.kind (drop l.option-index l.options)

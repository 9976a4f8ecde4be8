-- the first refusal is among the options that weren't looked at
use Rattle.std.proofs.Common.{◌≡◌, drop}
use Rattle.desk_model.specs.AttrOptions.{attrs_refusal}
use Rattle.desk_commands.proofs.widgets.attrs_refusal.Given as goal

abbrev pub invariant-loop-option : goal.invariant-loop-option
invariant-loop-option l = attrs_refusal l.kind l.options ≡ attrs_refusal l.kind (drop l.option-index l.options)

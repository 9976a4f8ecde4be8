-- the values of the options that were looked at
use Rattle.std.proofs.Common.{◌≡◌, take, length, Some}
use Rattle.std.specs.Option.{option_map}
use Rattle.widget_model.specs.Rows.{Row}
use Rattle.widget_model.specs.Widgets.{row_at}
use Rattle.desk_commands.specs.Lookup.{values_given}
use Rattle.desk_commands.proofs.widgets.values_of.Given as goal

abbrev pub invariant-loop-option : goal.invariant-loop-option
invariant-loop-option l = record {
  read : option_map (λ (row : Row). values_given row (take l.option-index l.options)) (row_at l.tree.entries l.id.key) ≡ Some l.values.items;
  count : length l.values.items ≡ l.option-index;
}

-- none of the options that were looked at moves something
use Rattle.std.proofs.Common.{◌≡◌, Some, false, take}
use Rattle.std.specs.List.{list_any}
use Rattle.kind_core.specs.declared.kinds.Attr.{Attr}
use Rattle.kind_core.specs.declared.values.Value as value
use Rattle.widget_model.specs.Rows.{Row}
use Rattle.widget_model.specs.Widgets.{rows_of, row_at}
use Rattle.desk_moves.specs.Stays.{value_moves}
use Rattle.desk_moves.proofs.moving.any_moves.Given as goal

abbrev pub invariant-loop-option : goal.invariant-loop-option
invariant-loop-option l = (row : Row) → row_at l.tree.entries l.id.key ≡ Some row → list_any (λ (option : Attr × value.Value). value_moves (rows_of l.tree) row option.0 option.1) (take l.option-index l.options) ≡ false

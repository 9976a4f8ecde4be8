-- the options that were looked at are set
use Rattle.std.proofs.Common.{◌≡◌, take, Some}
use Rattle.desk_model.specs.AttrOptions.{with_attrs}
use Rattle.widget_model.specs.Widgets.{row_kind, edited}
use Rattle.widget_model.specs.Forest.{IsWidgets}
use Rattle.desk_commands.proofs.widgets.set_attrs.Given as goal

abbrev pub invariant-loop-option : goal.invariant-loop-option
invariant-loop-option l = record {
  set : l.tree ≡ edited l.id.key (with_attrs (take l.option-index l.options)) l.initial.tree;
  valid : IsWidgets l.tree;
  kind : row_kind l.tree.entries l.id.key ≡ Some l.fn.kind;
}

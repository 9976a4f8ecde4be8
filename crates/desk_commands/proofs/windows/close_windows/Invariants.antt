-- the others' windows are as they were
use Rattle.std.proofs.Common.{◌≡◌, true, length}
use Rattle.std.specs.List.{list_all, filter}
use Rattle.stack_core.specs.Stack.{IsStack}
use Rattle.widget_model.specs.Widgets.{nodes}
use Rattle.desk_commands.specs.Parts.{names_window, is_others}
use Rattle.desk_commands.proofs.windows.close_windows.Given as goal

abbrev pub invariant-loop-key : goal.invariant-loop-key
invariant-loop-key l = record {
  others : filter (is_others (nodes l.tree.entries) l.client) l.windows ≡ filter (is_others (nodes l.tree.entries) l.client) l.initial.windows;
  stack : IsStack l.windows;
  windows : list_all (names_window (nodes l.tree.entries)) l.windows ≡ true;
}

abbrev pub decreases-loop-key : goal.decreases-loop-key
decreases-loop-key l = length l.windows

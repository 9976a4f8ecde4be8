-- no row that was looked at is linked
use Rattle.std.proofs.Common.{◌≡◌, false, take}
use Rattle.std.specs.List.{list_any}
use Rattle.widget_model.specs.Trees.{links_to}
use Rattle.widget_model.specs.Widgets.{rows_in}
use Rattle.tree_core.proofs.removing.is_linked.Given as goal

abbrev pub invariant-loop-i : goal.invariant-loop-i
invariant-loop-i l = list_any (links_to l.client l.name) (rows_in (take l.i l.store)) ≡ false

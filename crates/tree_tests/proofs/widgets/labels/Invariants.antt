-- the client is joined
use Rattle.std.proofs.Common.{◌≡◌, true}
use Rattle.widget_model.specs.Clients.{is_joined}
use Rattle.tree_tests.proofs.widgets.labels.Given as goal

abbrev pub invariant-loop-i : goal.invariant-loop-i
invariant-loop-i l = is_joined l.tree.clients 1 ≡ true

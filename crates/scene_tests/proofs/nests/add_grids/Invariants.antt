-- the client is joined
use Rattle.std.proofs.Common.{◌≡◌, true}
use Rattle.widget_model.specs.Clients.{is_joined}
use Rattle.scene_tests.proofs.nests.add_grids.Given as goal

abbrev pub invariant-loop-index : goal.invariant-loop-index
invariant-loop-index g l = is_joined l.tree.clients 1 ≡ true

-- the client is joined
use Rattle.std.proofs.Common.{◌≡◌, true}
use Rattle.widget_model.specs.Clients.{is_joined}
use Rattle.painter_tests.proofs.playing.play.Given as goal

abbrev pub invariant-loop-row : goal.invariant-loop-row
invariant-loop-row g l = is_joined l.tree.clients 1 ≡ true

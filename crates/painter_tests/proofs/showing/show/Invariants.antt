use Rattle.std.proofs.Common.{◌≡◌, true}
use Rattle.widget_model.specs.Clients.{is_joined}
use Rattle.scene_core.specs.View.{AreWindows, KeepsPlaces}
use Rattle.painter_tests.proofs.showing.show.Given as goal

-- the client is joined, and what is open so far is laid out
abbrev pub invariant-loop-name : goal.invariant-loop-name
invariant-loop-name l = (is_joined l.tree.clients 1 ≡ true) × AreWindows l.tree l.stack × KeepsPlaces l.tree l.stack

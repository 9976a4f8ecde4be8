-- what the pointer holds is live, and the pointer is on the screen
use Rattle.std.proofs.Common.{◌<◌}
use Rattle.input_core.specs.Live.{HoldsLive}
use Rattle.input_tests.proofs.keys.feed_all.Given as goal

abbrev pub invariant-loop-row : goal.invariant-loop-row
invariant-loop-row l = record { holds : HoldsLive l.tree l.after; x : l.after.x < 64; y : l.after.y < 64 }

use Rattle.std.proofs.Common.{◌≡◌}
use Rattle.redraw_tests.proofs.beside.walk.Given as goal

abbrev pub invariant-loop-number : goal.invariant-loop-number
invariant-loop-number l = (l.queue.width ≡ 16) × (l.queue.height ≡ 16)

abbrev pub invariant-loop-left : goal.invariant-loop-left
invariant-loop-left l = (l.queue.width ≡ 16) × (l.queue.height ≡ 16)

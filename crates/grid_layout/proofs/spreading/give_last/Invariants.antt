use Rattle.std.proofs.Common.{◌≡◌, ℕ, ◌+◌, length, get_or, ◌<◌, ◌==◌}
use Rattle.std.specs.Prelude.{if◌then◌else◌}
use Rattle.grid_layout.proofs.spreading.give_last.Given as goal

abbrev pub invariant-loop-i : goal.invariant-loop-i
invariant-loop-i l = record {
  places : length l.out ≡ length l.least;
  widths : (k : ℕ) → k < l.i → get_or l.out k 0 ≡ get_or l.least k 0 + (if k + 1 == length l.least then l.extra else 0);
}

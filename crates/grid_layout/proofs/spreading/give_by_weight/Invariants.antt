use Rattle.std.proofs.Common.{◌≡◌, ℕ, ◌+◌, ◌-◌, length, get_or, ◌<◌, sum, take}
use Rattle.grid_layout.specs.Spread.{part_before}
use Rattle.grid_layout.proofs.spreading.give_by_weight.Given as goal

abbrev pub invariant-loop-i : goal.invariant-loop-i
invariant-loop-i l = record {
  places : length l.out ≡ length l.least;
  weighed : l.passed ≡ sum (take l.i l.weights);
  widths : (k : ℕ) → k < l.i → get_or l.out k 0 ≡ get_or l.least k 0 + (part_before l.weights l.extra (k + 1) - part_before l.weights l.extra k);
}

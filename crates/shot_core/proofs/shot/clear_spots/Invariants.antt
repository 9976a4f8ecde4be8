use Rattle.std.proofs.Common.{◌≡◌, length, drop}
use Rattle.shot_core.proofs.Listed.{IsCleared}
use Rattle.shot_core.proofs.shot.clear_spots.Given as goal

abbrev pub invariant-loop-number : goal.invariant-loop-number
invariant-loop-number l = record { len : length l.spots ≡ length l.initial.spots; cleared : IsCleared l.spots (drop l.number-index l.numbers) }

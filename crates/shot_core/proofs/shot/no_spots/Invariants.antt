use Rattle.std.proofs.Common.{◌≡◌, ℕ, length, slice_index_or, None}
use Rattle.shot_core.proofs.shot.no_spots.Given as goal

abbrev pub invariant-loop-i : goal.invariant-loop-i
invariant-loop-i l = record { len : length l.spots.items ≡ l._i; none : (key : ℕ) → slice_index_or l.spots.items key None ≡ None }

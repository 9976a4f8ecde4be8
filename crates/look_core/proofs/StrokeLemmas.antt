-- Facts on strokes: what a fill of some bytes leaves at each place.
use Rattle.std.proofs.Common.{◌≡◌, ℕ, ◌-◌, ◌<◌, ◌≤◌, nat_le, nat_lt, ◌&&◌, cond, List, length, get_or, replicate, arith}
use borrow.Rule.Slice.PartMut.{put_mid}
use Rattle.std.proofs.lemmas.List.{places}
use Rattle.std.proofs.lemmas.Bool.Decides.{nat_tests}

-- the bytes from a up to b are filled, and the others stay
pub filled_at : (xs ys : List ℕ) (a b colour i : ℕ) → a ≤ b → b ≤ length xs → ys ≡ replicate (b - a) colour → i < length xs → get_or (put_mid a (b - a) xs ys) i 0 ≡ cond (nat_le a i && nat_lt i b) colour (get_or xs i 0)
filled_at xs ys a b colour i order fits filled low = grind (arith, places, nat_tests)

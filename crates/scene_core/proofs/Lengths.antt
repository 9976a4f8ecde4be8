-- The sums of the first of a few short lengths.
use Rattle.std.proofs.Common.{ℕ, ◌≤◌, List, length, take, sum, All, arith}
use Rattle.std.proofs.lemmas.List.Sums.{sum_by-take-le}
use Rattle.grid_layout.proofs.Shares.{least_sum_small}

pub sum_take_small : (k : ℕ) (lengths : List ℕ) → length lengths ≤ 16 → All (λ n. n ≤ 4128) lengths → sum (take k lengths) ≤ 66048
sum_take_small k lengths few short = omega (arith, sum_by-take-le (λ x. x) lengths k, least_sum_small lengths few short)

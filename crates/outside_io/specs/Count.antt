-- A count of faults or of calls goes up by one, and stands still at 18,446,744,073,709,551,615.
use Rattle.std.specs.Prelude.{ℕ, ◌+◌, ◌-◌, ◌^◌, ◌≤◌, min}

-- the count after one more
abbrev pub one_more : ℕ → ℕ
one_more count = min (count + 1) (2 ^ 64 - 1)

-- a count rose where it is greater after than before, or stands at its greatest value after
abbrev pub Rose : ℕ → ℕ → Type 0
Rose before now = one_more before ≤ now

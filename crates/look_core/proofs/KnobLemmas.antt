-- Facts on knobs: their products fit, and a share of a length is at most it.
use Rattle.std.proofs.Common.{ℕ, ◌*◌, ◌/◌, ◌≤◌, arith}
use Rattle.std.proofs.Math.Nat.{mul-le-mul_left, mul-le-mul_right, div-le_of_le-mul}

-- the product of a length and a value
pub small_product : (length value : ℕ) → length ≤ 4128 → value ≤ 10000 → length * value ≤ 41280000
small_product length value short small = omega (arith, mul-le-mul_right value short, mul-le-mul_left 4128 small)

-- a share of a length
pub small_share : (length value most : ℕ) → value ≤ most → length * value / most ≤ length
small_share length value most within = div-le_of_le-mul most (omega (arith, mul-le-mul_left length within))

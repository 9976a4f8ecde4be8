-- Products that fit, and shares of a length.
use Rattle.std.proofs.Common.{ℕ, ◌*◌, ◌/◌, ◌≤◌, arith}
use Rattle.std.proofs.Math.Nat.{mul-le-mul_left, mul-le-mul_right, div-le_of_le-mul}

-- the product of a length and a value
pub product : (length value : ℕ) → length ≤ 1048576 → value ≤ 10000 → length * value ≤ 10485760000
product length value short small = omega (arith, mul-le-mul_right value short, mul-le-mul_left 1048576 small)

-- a part of a value is at most the value
pub share : (part value whole : ℕ) → part ≤ whole → part * value / whole ≤ value
share part value whole within = div-le_of_le-mul whole (omega (arith, mul-le-mul_right value within))

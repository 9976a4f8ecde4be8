-- Facts on bands: they stand in order, one ends where the next begins, and together they have all pixels.
use Rattle.std.proofs.Common.{◌≡◌, ℕ, ◌+◌, ◌*◌, ◌<◌, ◌≤◌, arith}
use Rattle.std.proofs.lemmas.Grind.{div_ceil_times}
use Rattle.std.proofs.Math.Nat.{mul-le-mul_right, mul_comm}
use Rattle.vscreen_core.specs.Band.{band_size, band_start, band_at, share_of}
use Rattle.vscreen_core.specs.Laws.{PastTheLastPixel}

-- the bands of a whole period have all pixels
pub all_pixels : (n p : ℕ) → 0 < p → n ≤ p * band_size n p
unfolding band_size
all_pixels n p some = omega (arith, div_ceil_times n p some, mul_comm p (band_size n p))

pub band_start-zero : (n p : ℕ) → band_start n p 0 ≡ 0
unfolding band_start
band_start-zero n p = omega arith

pub band_start-le : (n p k : ℕ) → band_start n p k ≤ n
unfolding band_start
band_start-le n p k = omega arith

pub band_start-order : (n p j k : ℕ) → j ≤ k → band_start n p j ≤ band_start n p k
unfolding band_start
band_start-order n p j k le = omega (arith, mul-le-mul_right (band_size n p) le)

-- at the period's end no pixel is left
pub band_start-all : (n p : ℕ) → 0 < p → band_start n p p ≡ n
unfolding band_start
band_start-all n p some = omega (arith, all_pixels n p some)

-- the band of a phase has pixels of the film, in order
pub band_order : (n p k : ℕ) → (band_at n p k).from ≤ (band_at n p k).to
unfolding band_at
band_order n p k = band_start-order n p k (k + 1) (omega arith)

pub band_within : (n p k : ℕ) → (band_at n p k).to ≤ n
unfolding band_at
band_within n p k = band_start-le n p (k + 1)

-- no band has more pixels than a whole one
pub band_few : (n p k : ℕ) → (band_at n p k).to ≤ (band_at n p k).from + band_size n p
unfolding band_at band_start
band_few n p k = omega arith

pub past_the_last_pixel : PastTheLastPixel
unfolding band_at band_start share_of
past_the_last_pixel w h p k past = (omega arith, omega arith)

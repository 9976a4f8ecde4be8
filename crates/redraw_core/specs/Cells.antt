-- Inner words of the proofs: what a write over cells leaves, cell by cell, and how many it changed.
use Rattle.std.specs.Prelude.{◌≡◌, ℕ, ◌+◌, ◌*◌, ◌/◌, ◌%◌, ◌<◌, ◌≤◌, ℤ, pos, nat_abs, Bool, false, ◌&&◌, ◌||◌, not, List, length, slice_index_or, nat_le, nat_lt}
use Rattle.geom_core.specs.declared.rectangle.Rect.{Rect}
use Rattle.geom_core.specs.Count.{true_count}

-- whether the index k is one of those from `from` to before `to`
abbrev pub in_run : ℕ → ℕ → ℕ → Bool
in_run from to k = nat_le from k && nat_lt k to

-- a test of pixels at the pixel with the index k
abbrev pub at_index : (ℤ → ℤ → Bool) → ℕ → ℕ → Bool
at_index test width k = test (pos (k % width)) (pos (k / width))

-- each cell that passes the test is true, and no other changed; `count` of them were false before
pub record IsMarked (test : ℕ → Bool) (count : ℕ) (old new : List Bool) : Type 0 where
  pub size : length new ≡ length old
  pub each : (k : ℕ) → k < length old → slice_index_or new k false ≡ (slice_index_or old k false || test k)
  pub more : true_count new ≡ true_count old + count

-- each cell that passes the test is false, and no other changed; `count` of them were true before
pub record IsErased (test : ℕ → Bool) (count : ℕ) (old new : List Bool) : Type 0 where
  pub size : length new ≡ length old
  pub each : (k : ℕ) → k < length old → slice_index_or new k false ≡ (slice_index_or old k false && not (test k))
  pub fewer : true_count new + count ≡ true_count old

-- the rectangle lies in the rows of a screen of that width with that many cells
pub record IsWithin (rect : Rect) (width size : ℕ) : Type 0 where
  pub left : pos (nat_abs rect.x) ≡ rect.x
  pub upper : pos (nat_abs rect.y) ≡ rect.y
  pub right : nat_abs rect.x + rect.w ≤ width
  pub lower : (nat_abs rect.y + rect.h) * width ≤ size

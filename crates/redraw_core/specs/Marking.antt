-- Inner words of the proofs: what always holds of the overflow map, and which run of it is taken.
use Rattle.std.specs.Prelude.{◌≡◌, ℕ, ◌+◌, ◌<◌, ◌≤◌, nat_abs, false, length, slice_index_or}
use Rattle.geom_core.specs.declared.rectangle.Rect.{Rect}
use Rattle.redraw_core.specs.Dirt.{Dirt, IsDirt, dirty_count, is_dirty}

-- the count is that of the true cells, and no cell before the cursor `first` is true
pub record IsOverflow (dirt : Dirt) (count first : ℕ) : Type 0 where
  pub valid : IsDirt dirt
  pub counted : count ≡ dirty_count dirt
  pub within : first ≤ length dirt.marks
  pub none : (k : ℕ) → k < first → slice_index_or dirt.marks k false ≡ false

-- a run that is taken is as long as may be: it has n pixels, ends where its row does, or a clean pixel follows it
pub record IsLongest (n : ℕ) (rect : Rect) (old : Dirt) : Type 0 where
  pub clean_after : rect.w < n → nat_abs rect.x + rect.w < old.width → is_dirty old (nat_abs rect.x + rect.w) (nat_abs rect.y) ≡ false

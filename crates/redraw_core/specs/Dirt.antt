-- The dirt of a screen: a truth value for each of its pixels, row after row from the top, so that the pixel (x, y) is
-- the one at y * width + x. A pixel is dirty where that value is true: it is still to be drawn.
use Rattle.std.specs.Prelude.{◌≡◌, ℕ, ◌+◌, ◌*◌, ◌<◌, ◌≤◌, pos, Bool, true, false, ◌&&◌, not, List, length, slice_index_or}
use Rattle.geom_core.specs.declared.rectangle.Rect.{Rect}
use Rattle.geom_core.specs.Rect.{in_rect, area_of, IsInside}
use Rattle.geom_core.specs.Count.{screen_of, true_count}

pub record Dirt : Type 0 where
  pub width : ℕ
  pub height : ℕ
  pub marks : List Bool

-- whether the pixel (x, y) of the screen is dirty
abbrev pub is_dirty : Dirt → ℕ → ℕ → Bool
is_dirty dirt x y = slice_index_or dirt.marks (y * dirt.width + x) false

-- how many pixels are dirty
abbrev pub dirty_count : Dirt → ℕ
dirty_count dirt = true_count dirt.marks

-- there is a truth value for each pixel of a screen within the limits
pub record IsDirt (dirt : Dirt) : Type 0 where
  pub least_width : 1 ≤ dirt.width
  pub greatest_width : dirt.width ≤ 4096
  pub greatest_height : dirt.height ≤ 4096
  pub size : length dirt.marks ≡ dirt.width * dirt.height

-- a statement on each pixel of the screen
abbrev pub EachPixel : Dirt → (ℕ → ℕ → Type 0) → Type 0
EachPixel dirt P = (x y : ℕ) → x < dirt.width → y < dirt.height → P x y

-- no pixel is dirty
abbrev pub IsClean : Dirt → Type 0
IsClean dirt = EachPixel dirt (λ x y. is_dirty dirt x y ≡ false)

-- A rectangle of 1 to n pixels is taken out of the dirt: they are on the screen, each was dirty, and each is
-- clean now. No other pixel changes.
pub record IsTaken (n : ℕ) (rect : Rect) (old new : Dirt) : Type 0 where
  pub least : 1 ≤ area_of rect
  pub most : area_of rect ≤ n
  pub on_screen : IsInside rect (screen_of old.width old.height)
  pub were_dirty : EachPixel old (λ x y. in_rect rect (pos x) (pos y) ≡ true → is_dirty old x y ≡ true)
  pub pixels : EachPixel old (λ x y. is_dirty new x y ≡ (is_dirty old x y && not (in_rect rect (pos x) (pos y))))

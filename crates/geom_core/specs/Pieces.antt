-- A list of rectangles covers the pixels that are in one of them. Where they are disjoint, each pixel is in one alone.
use Rattle.std.specs.Prelude.{◌≡◌, ℕ, ◌+◌, ◌<◌, ℤ, Bool, false, ◌&&◌, ◌||◌, List, [], ◌∷◌}
use Rattle.geom_core.specs.declared.rectangle.Rect.{Rect}
use Rattle.geom_core.specs.Rect.{in_rect, area_of, IsInRange}

-- whether the pixel (x, y) is in one of the rectangles
abbrev pub covers : List Rect → ℤ → ℤ → Bool
covers [] x y = false
covers (r ∷ rs) x y = in_rect r x y || covers rs x y

-- the sum of the areas
abbrev pub total_area : List Rect → ℕ
total_area [] = 0
total_area (r ∷ rs) = area_of r + total_area rs

-- no pixel is in two of the rectangles
abbrev pub AreDisjoint : List Rect → Type 0
AreDisjoint [] = Unit {0}
AreDisjoint (r ∷ rs) = ((x y : ℤ) → (in_rect r x y && covers rs x y) ≡ false) × AreDisjoint rs

-- each rectangle has a pixel
abbrev pub HavePixels : List Rect → Type 0
HavePixels [] = Unit {0}
HavePixels (r ∷ rs) = (0 < area_of r) × HavePixels rs

-- each rectangle is within the limit of coordinates
abbrev pub AreInRange : List Rect → Type 0
AreInRange [] = Unit {0}
AreInRange (r ∷ rs) = IsInRange r × AreInRange rs

-- A rectangle is split into two along a row or a column: each of its pixels is in one of the two parts alone.
use Rattle.std.specs.Prelude.{◌≡◌, ℕ, ◌+◌, ◌-◌, ℤ, pos, ◌+ℤ◌, false, ◌&&◌, ◌||◌, List, [], ◌∷◌, ◌++◌, ◌==◌, ◌≤◌, min, length, not, if◌then◌else◌}
use Rattle.geom_core.specs.declared.rectangle.Rect.{Rect}
use Rattle.geom_core.specs.Rect.{in_rect, area_of, IsInRange}
use Rattle.geom_core.specs.Pieces.{covers, total_area, AreDisjoint, HavePixels, AreInRange}

-- the upper rows, and the rows below them
abbrev pub upper_rows : Rect → ℕ → Rect
upper_rows a rows = record { x = a.x; y = a.y; w = a.w; h = rows }

abbrev pub lower_rows : Rect → ℕ → Rect
lower_rows a rows = record { x = a.x; y = a.y +ℤ pos rows; w = a.w; h = a.h - rows }

-- the row with that index, from 0 at the top
abbrev pub row_at : Rect → ℕ → Rect
row_at a row = record { x = a.x; y = a.y +ℤ pos row; w = a.w; h = 1 }

-- the left columns, and the columns right of them
abbrev pub left_columns : Rect → ℕ → Rect
left_columns a columns = record { x = a.x; y = a.y; w = columns; h = a.h }

abbrev pub right_columns : Rect → ℕ → Rect
right_columns a columns = record { x = a.x +ℤ pos columns; y = a.y; w = a.w - columns; h = a.h }

-- the pixels of the whole are those of the two parts, and no pixel is in both
pub record IsSplit (whole first second : Rect) : Type 0 where
  pub pixels : (x y : ℤ) → in_rect whole x y ≡ (in_rect first x y || in_rect second x y)
  pub apart : (x y : ℤ) → (in_rect first x y && in_rect second x y) ≡ false
  pub areas : area_of first + area_of second ≡ area_of whole
  pub first_in_range : IsInRange first
  pub second_in_range : IsInRange second

-- the list with one more part at its end, where the part has a pixel
unfoldable pub with_part : List Rect → Rect → List Rect
with_part parts part = if area_of part == 0 then parts else parts ++ part ∷ []

-- the parts are disjoint, none is empty, and they have the pixels of the whole outside the hole
pub record IsCut (whole hole : Rect) (parts : List Rect) : Type 0 where
  pub pixels : (x y : ℤ) → covers parts x y ≡ (in_rect whole x y && not (in_rect hole x y))
  pub disjoint : AreDisjoint parts
  pub filled : HavePixels parts
  pub in_range : AreInRange parts
  pub areas : total_area parts + area_of hole ≡ area_of whole
  pub count : length parts ≤ 4

-- the drawn and the remaining parts are disjoint, none is empty, they have the pixels of the whole, and n of
-- them, or all where there are fewer, are drawn
pub record IsFront (whole : Rect) (n : ℕ) (drawn rest : List Rect) : Type 0 where
  pub pixels : (x y : ℤ) → covers (drawn ++ rest) x y ≡ in_rect whole x y
  pub disjoint : AreDisjoint (drawn ++ rest)
  pub filled : HavePixels (drawn ++ rest)
  pub in_range : AreInRange (drawn ++ rest)
  pub drawn_area : total_area drawn ≡ min n (area_of whole)
  pub rest_area : total_area rest ≡ area_of whole - n

-- A rectangle is the set of its pixels: those from x to x + w - 1 across and from y to y + h - 1 down.
use Rattle.std.specs.Prelude.{◌≡◌, ℕ, ◌*◌, ◌≤◌, ℤ, pos, ◌+ℤ◌, ◌≤ℤ◌, neg_ℤ, Bool, ◌&&◌, int_le, int_lt, true}
use Rattle.geom_core.specs.declared.rectangle.Rect.{Rect}

-- whether p is one of the `len` integers from `from` on
abbrev pub in_span : ℤ → ℕ → ℤ → Bool
in_span from len p = int_le from p && int_lt p (from +ℤ pos len)

-- whether the pixel (x, y) is in the rectangle
abbrev pub in_rect : Rect → ℤ → ℤ → Bool
in_rect r x y = in_span r.x r.w x && in_span r.y r.h y

-- how many pixels a rectangle has
abbrev pub area_of : Rect → ℕ
area_of r = r.w * r.h

-- the rectangle has no pixel, since it has no width or no height
abbrev pub IsEmpty : Rect → Type 0
IsEmpty r = area_of r ≡ 0

-- the greatest size of a coordinate, a width or a height
abbrev pub farthest : ℕ
farthest = 1048576

-- the len integers from `from` on, and the one past them, are at most that far from 0
pub record IsNear (from : ℤ) (len : ℕ) : Type 0 where
  pub least : neg_ℤ (pos farthest) ≤ℤ from
  pub greatest : (from +ℤ pos len) ≤ℤ pos farthest
  pub start : from ≤ℤ pos farthest
  pub size : len ≤ farthest

-- each coordinate, the width and the height, x + w and y + h are at most 1,048,576 in size
pub record IsInRange (r : Rect) : Type 0 where
  pub across : IsNear r.x r.w
  pub down : IsNear r.y r.h

-- the two rectangles have the same pixels
abbrev pub SamePixels : Rect → Rect → Type 0
SamePixels a b = (x y : ℤ) → in_rect a x y ≡ in_rect b x y

-- each pixel of the inner rectangle is in the outer one
abbrev pub IsInside : Rect → Rect → Type 0
IsInside inner outer = (x y : ℤ) → in_rect inner x y ≡ true → in_rect outer x y ≡ true

-- the inner rectangle's sides are within the outer one's
pub record IsEnclosed (inner outer : Rect) : Type 0 where
  pub left : outer.x ≤ℤ inner.x
  pub right : (inner.x +ℤ pos inner.w) ≤ℤ (outer.x +ℤ pos outer.w)
  pub upper : outer.y ≤ℤ inner.y
  pub lower : (inner.y +ℤ pos inner.h) ≤ℤ (outer.y +ℤ pos outer.h)

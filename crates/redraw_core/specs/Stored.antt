-- Inner words of the proofs: the dirt that a list of kept rectangles and an overflow map hold, and what grows of it.
use Rattle.std.specs.Prelude.{◌≡◌, ℕ, ◌<◌, ℤ, pos, nat_abs, Bool, true, false, ◌&&◌, ◌||◌, not, ◌≤◌, List, length, take}
use Rattle.geom_core.specs.declared.rectangle.Rect.{Rect}
use Rattle.geom_core.specs.Rect.{in_rect, area_of, IsInside}
use Rattle.geom_core.specs.Pieces.{covers, total_area, AreDisjoint, HavePixels}
use Rattle.geom_core.specs.Count.{screen_of, marks_on}
use Rattle.redraw_core.specs.Dirt.{Dirt, IsDirt, EachPixel, is_dirty}

-- whether the pixel (x, y) is in a kept rectangle or true in the map
abbrev pub dirty_in : List Rect → Dirt → ℕ → ℕ → Bool
dirty_in kept map x y = covers kept (pos x) (pos y) || is_dirty map x y

-- the dirt of the whole, as a truth value for each pixel
abbrev pub dirt_in : List Rect → Dirt → Dirt
dirt_in kept map = record {
  width = map.width;
  height = map.height;
  marks = marks_on (λ (x y : ℤ). covers kept x y || is_dirty map (nat_abs x) (nat_abs y)) map.width map.height;
}

-- what always holds: the kept rectangles are disjoint, not empty, on the screen and apart from the map
pub record IsKept (kept : List Rect) (area : ℕ) (map : Dirt) : Type 0 where
  pub valid : IsDirt map
  pub disjoint : AreDisjoint kept
  pub filled : HavePixels kept
  pub on_screen : (x y : ℤ) → covers kept x y ≡ true → in_rect (screen_of map.width map.height) x y ≡ true
  pub apart : EachPixel map (λ x y. (covers kept (pos x) (pos y) && is_dirty map x y) ≡ false)
  pub sum : area ≡ total_area kept

-- the rectangle has a pixel, and is on the screen
pub record IsPiece (rect : Rect) (map : Dirt) : Type 0 where
  pub some : 0 < area_of rect
  pub inside : IsInside rect (screen_of map.width map.height)

-- no pixel of the rectangle is dirty
pub record IsFresh (rect : Rect) (kept : List Rect) (map : Dirt) : Type 0 where
  pub clean : EachPixel map (λ x y. (in_rect rect (pos x) (pos y) && dirty_in kept map x y) ≡ false)

-- no pixel of the rectangle is in one of the others
pub record IsApart (rect : Rect) (others : List Rect) : Type 0 where
  pub none : (x y : ℤ) → (covers others x y && in_rect rect x y) ≡ false

-- the pixels that pass the test became dirty, and no others; the kept rectangles stand where they stood
pub record Grown (test : ℤ → ℤ → Bool) (kept : List Rect) (map : Dirt) (more : List Rect) (area : ℕ) (new : Dirt) : Type 0 where
  pub is : IsKept more area new
  pub width : new.width ≡ map.width
  pub height : new.height ≡ map.height
  pub pixels : EachPixel map (λ x y. dirty_in more new x y ≡ (dirty_in kept map x y || test (pos x) (pos y)))
  pub keeps : take (length kept) more ≡ kept

-- the same pixels are dirty, though other rectangles are kept
pub record Rearranged (kept : List Rect) (map : Dirt) (more : List Rect) (area : ℕ) (new : Dirt) : Type 0 where
  pub is : IsKept more area new
  pub width : new.width ≡ map.width
  pub height : new.height ≡ map.height
  pub pixels : EachPixel map (λ x y. dirty_in more new x y ≡ dirty_in kept map x y)

-- a rectangle of 1 to n pixels is taken: they are on the screen, were dirty and are clean now, and no others changed
pub record Removed (n : ℕ) (rect : Rect) (kept : List Rect) (map : Dirt) (more : List Rect) (area : ℕ) (new : Dirt) : Type 0 where
  pub is : IsKept more area new
  pub width : new.width ≡ map.width
  pub height : new.height ≡ map.height
  pub least : 1 ≤ area_of rect
  pub most : area_of rect ≤ n
  pub inside : IsInside rect (screen_of map.width map.height)
  pub were_dirty : EachPixel map (λ x y. in_rect rect (pos x) (pos y) ≡ true → dirty_in kept map x y ≡ true)
  pub pixels : EachPixel map (λ x y. dirty_in more new x y ≡ (dirty_in kept map x y && not (in_rect rect (pos x) (pos y))))

-- the pixels that pass the test became dirty, and no others, though other rectangles are kept
pub record Added (test : ℤ → ℤ → Bool) (kept : List Rect) (map : Dirt) (more : List Rect) (area : ℕ) (new : Dirt) : Type 0 where
  pub is : IsKept more area new
  pub width : new.width ≡ map.width
  pub height : new.height ≡ map.height
  pub pixels : EachPixel map (λ x y. dirty_in more new x y ≡ (dirty_in kept map x y || test (pos x) (pos y)))

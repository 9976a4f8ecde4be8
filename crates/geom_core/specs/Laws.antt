-- What is proved of rectangles as sets of pixels.
use Rattle.std.specs.Prelude.{◌≡◌, ℕ, ◌+◌, ◌*◌, ◌<◌, ◌≤◌, ℤ, pos, Bool, true, false, ◌&&◌, List, nat_le, nat_lt, nat_eq, slice_index_or}
use Rattle.geom_core.specs.declared.rectangle.Rect.{Rect}
use Rattle.geom_core.specs.Rect.{in_rect, area_of, IsEmpty, IsInside, IsEnclosed, SamePixels}
use Rattle.geom_core.specs.Pieces.{covers, total_area, AreDisjoint}
use Rattle.geom_core.specs.Count.{count_in, screen_of, marks_on, true_count}

-- a rectangle has a pixel exactly where its area is above 0
abbrev pub EmptyHoldsNothing : Type 0
EmptyHoldsNothing = (r : Rect) (x y : ℤ) → IsEmpty r → in_rect r x y ≡ false

abbrev pub OthersHoldTheirCorner : Type 0
OthersHoldTheirCorner = (r : Rect) → 0 < area_of r → in_rect r r.x r.y ≡ true

-- a rectangle that isn't empty is known by its pixels
abbrev pub PixelsTellTheRectangle : Type 0
PixelsTellTheRectangle = (a b : Rect) → 0 < area_of a → SamePixels a b → a ≡ b

-- a rectangle that isn't empty has its pixels in another exactly where its sides are within the other's
abbrev pub InsideIsEnclosed : Type 0
InsideIsEnclosed = (inner outer : Rect) → 0 < area_of inner → IsInside inner outer → IsEnclosed inner outer

abbrev pub EnclosedIsInside : Type 0
EnclosedIsInside = (inner outer : Rect) → IsEnclosed inner outer → IsInside inner outer

-- a rectangle has as many pixels as its area says, in any box that it is in
abbrev pub AreaCountsPixels : Type 0
AreaCountsPixels = (r box : Rect) → IsInside r box → count_in (in_rect r) box ≡ area_of r

-- the areas of disjoint parts add up to the area of the whole
abbrev pub AreasAddUp : Type 0
AreasAddUp = (whole : Rect) (parts : List Rect) → AreDisjoint parts
    → ((x y : ℤ) → covers parts x y ≡ in_rect whole x y) → total_area parts ≡ area_of whole

-- the index y * width + x of a screen has the mark of the pixel (x, y)
abbrev pub IndexIsPixel : Type 0
IndexIsPixel = (test : ℤ → ℤ → Bool) (width height x y : ℕ) (d : Bool) → x < width → y < height
    → slice_index_or (marks_on test width height) (y * width + x) d ≡ test (pos x) (pos y)

-- along the indices of a screen as many pixels pass a test as in the screen as a box
abbrev pub MarksCountPixels : Type 0
MarksCountPixels = (test : ℤ → ℤ → Bool) (width height : ℕ)
    → true_count (marks_on test width height) ≡ count_in test (screen_of width height)

-- an index lies in a run of one row exactly where its column is in the run and its row is that row
abbrev pub RunIsPartOfRow : Type 0
RunIsPartOfRow = (width from len x y row : ℕ) → x < width → from + len ≤ width
    → (nat_le (row * width + from) (y * width + x) && nat_lt (y * width + x) (row * width + from + len))
    ≡ ((nat_le from x && nat_lt x (from + len)) && nat_eq y row)

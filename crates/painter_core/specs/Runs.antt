-- An inner word of the proofs: a run of a film's pixels as three rectangles, and parts of the screen that are put into a
-- list.
use Rattle.std.specs.Prelude.{◌≡◌, ◌≤◌, ◌+◌, ◌==◌, ◌+ℤ◌, pos, ℕ, ℤ, Bool, false, ◌&&◌, ◌||◌, List, length, if◌then◌else◌}
use Rattle.geom_core.specs.declared.rectangle.Rect.{Rect}
use Rattle.geom_core.specs.Rect.{in_rect}
use Rattle.geom_core.specs.Pieces.{covers, AreDisjoint, HavePixels}
use Rattle.vscreen_core.specs.declared.band.Band.{Band}
use Rattle.scene_model.specs.Bands.{in_band}

-- the part of a film from that column and row of it on
abbrev pub part_of : Rect → ℕ → ℕ → ℕ → ℕ → Rect
part_of film column row width height = record { x = film.x +ℤ pos column; y = film.y +ℤ pos row; w = width; h = height }

-- Where the first run ends in its row, and the last one in the row of the band's end: in one row the first run has all.
abbrev pub first_end : ℕ → ℕ → ℕ → ℕ → ℕ
first_end upper lower end width = if upper == lower then end else width

abbrev pub last_end : ℕ → ℕ → ℕ → ℕ
last_end upper lower end = if upper == lower then 0 else end

-- The pixels of the film that are in the band are those of the three, and no pixel is in two of them.
pub record AreRuns (film : Rect) (band : Band) (first middle last : Rect) : Type 0 where
  pub pixels : (x y : ℤ) → in_band film band x y ≡ ((in_rect first x y || in_rect middle x y) || in_rect last x y)
  pub upper_apart : (x y : ℤ) → (in_rect first x y && in_rect middle x y) ≡ false
  pub lower_apart : (x y : ℤ) → ((in_rect first x y || in_rect middle x y) && in_rect last x y) ≡ false

-- What the screen has of the part was put at the end of the list, unless it has nothing.
pub record IsPut (part screen : Rect) (old new : List Rect) : Type 0 where
  pub pixels : (x y : ℤ) → covers new x y ≡ (covers old x y || (in_rect part x y && in_rect screen x y))
  pub disjoint : AreDisjoint old → ((x y : ℤ) → (covers old x y && (in_rect part x y && in_rect screen x y)) ≡ false) → AreDisjoint new
  pub filled : HavePixels old → HavePixels new
  pub count : length new ≤ length old + 1

-- The parts are disjoint, none is empty, and they have the pixels that pass the test.
pub record AreParts (test : ℤ → ℤ → Bool) (parts : List Rect) : Type 0 where
  pub pixels : (x y : ℤ) → covers parts x y ≡ test x y
  pub disjoint : AreDisjoint parts
  pub filled : HavePixels parts

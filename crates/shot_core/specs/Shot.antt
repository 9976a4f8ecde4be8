-- A shot is what the screen shows at one moment, by the numbers of rows: the open windows from top to bottom, each with
-- its place, for each number the spot of the shown row that has it, and the list of the numbers that have one.
use Rattle.std.specs.Prelude.{ℕ, ◌≡◌, ◌≤◌, ◌<◌, false, is_some, nat_eq, List, [], ◌∷◌, map, length, Option, None, IfSome, slice_index_or}
use Rattle.std.specs.List.{list_any}
use Rattle.geom_core.specs.declared.rectangle.Rect.{Rect}
use Rattle.shot_core.specs.declared.spot.Spot.{Spot}

-- rows have numbers below this one
unfoldable pub most_numbers : ℕ
most_numbers = 2048

pub record Seen : Type 0 where
  pub windows : List (ℕ × Rect)
  pub spots : List (Option Spot)
  pub numbers : List ℕ

-- the spot of the shown row with this number
abbrev pub spot_at : Seen → ℕ → Option Spot
spot_at shot key = slice_index_or shot.spots key None

-- the numbers of the windows, from top to bottom
abbrev pub numbers_of : List (ℕ × Rect) → List ℕ
numbers_of windows = map (λ window. window.0) windows

abbrev pub windows_in : Seen → List ℕ
windows_in shot = numbers_of shot.windows

-- no number stands in the list twice
abbrev pub AreOnce : List ℕ → Type 0
AreOnce [] = Unit {0}
AreOnce (number ∷ numbers) = (list_any (nat_eq number) numbers ≡ false) × AreOnce numbers

-- just the numbers that have one of these spots stand in the list
abbrev pub AreListed : List (Option Spot) → List ℕ → Type 0
AreListed spots numbers = (key : ℕ) → list_any (nat_eq key) numbers ≡ is_some (slice_index_or spots key None)

-- what is true of every shot
pub record IsShot (shot : Seen) : Type 0 where
  pub few : length shot.windows ≤ 128
  pub once : AreOnce (windows_in shot)
  pub spots : length shot.spots ≡ most_numbers
  pub within : (key : ℕ) → IfSome (spot_at shot key) (λ spot. spot.window < most_numbers)
  pub listed : AreListed shot.spots shot.numbers
  pub listed_once : AreOnce shot.numbers

-- whether the shot has no windows and no spots, as at first
pub record IsBare (shot : Seen) : Type 0 where
  pub windows : shot.windows ≡ []
  pub spots : (key : ℕ) → spot_at shot key ≡ None

-- A state of the machine: a desk, a screen and a dirt map. A screen is a list of width * height bytes, a
-- dirt map a list of as many truth values; the pixel (x, y) is the one at y * width + x.
use Rattle.std.specs.Prelude.{◌≡◌, ℕ, ◌+◌, ◌*◌, ◌<◌, Bool, false, List, length, replicate, slice_index_or, Option, Some, None, nat_lt, ◌&&◌, if◌then◌else◌}
use Rattle.std.specs.List.{count_by}
use Rattle.kind_core.specs.declared.shapes.Shape.{Shape}
use Rattle.scene_model.specs.Shapes.{area}
use Rattle.desk_model.specs.Desk.{Desk, opening_desk}
use Rattle.desk_model.specs.DeskFacts.{IsDesk}
use Rattle.desk_model.specs.Seen.{colour}

pub record State : Type 0 where
  pub desk : Desk
  pub screen : List ℕ
  pub dirt : List Bool

-- where the pixel (x, y) stands in a list of all pixels
abbrev pub index_of : State → ℕ → ℕ → ℕ
index_of state x y = y * state.desk.shape.width + x

abbrev pub byte_at : State → ℕ → ℕ → ℕ
byte_at state x y = slice_index_or state.screen (index_of state x y) 0

abbrev pub is_dirty : State → ℕ → ℕ → Bool
is_dirty state x y = slice_index_or state.dirt (index_of state x y) false

-- how many truth values of a map are true
abbrev pub count_true : List Bool → ℕ
count_true marks = count_by (λ mark. mark) marks

abbrev pub dirty_count : State → ℕ
dirty_count state = count_true state.dirt

-- A statement on each pixel of the screen.
abbrev pub EachPixel : Shape → (ℕ → ℕ → Type 0) → Type 0
EachPixel shape P = (x y : ℕ) → x < shape.width → y < shape.height → P x y

-- what a client sees at (x, y): nothing off the screen
abbrev pub seen_at : State → ℕ → ℕ → Option ℕ
seen_at state x y = if nat_lt x state.desk.shape.width && nat_lt y state.desk.shape.height then Some (byte_at state x y) else None

-- At opening the screen has the desk's colour everywhere, and nothing is dirty.
unfoldable pub opening : Shape → State
opening shape = record { desk = opening_desk shape; screen = replicate (area shape) 2; dirt = replicate (area shape) false }

-- Between any two events what holds of a desk holds, the lists have the screen's size, and each pixel is dirty or
-- has its colour.
pub record IsState (state : State) : Type 0 where
  pub desk : IsDesk state.desk
  pub screen : length state.screen ≡ area state.desk.shape
  pub dirt : length state.dirt ≡ area state.desk.shape
  pub current : EachPixel state.desk.shape (λ x y. is_dirty state x y ≡ false → byte_at state x y ≡ colour state.desk x y)

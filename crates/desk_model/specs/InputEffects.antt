-- What an input asks of the desk. A place is the rectangle of a widget on the screen; a local pixel is the pointer's
-- pixel less the left and upper side of a place, and may be negative.
use Rattle.std.specs.Prelude.{ℕ, ℤ, pos, ◌-ℤ◌, List, [], ◌∷◌, Option, None, is_some, if◌then◌else◌}
use Rattle.std.specs.Option.{option_map_or}
use Rattle.kind_core.specs.declared.kinds.EventKind.{EventKind}
use Rattle.geom_core.specs.declared.rectangle.Rect.{Rect}
use Rattle.widget_model.specs.Rows.{Row, binding_of}
use Rattle.widget_model.specs.Keys.{key_of, row_of}
use Rattle.widget_model.specs.Pointer.{Pointer}

-- the top widget at the pointer's pixel, and its place
pub record Hit : Type 0 where
  pub key : ℕ × List ℕ
  pub place : Rect

pub record Effects : Type 0 where
  -- the pointer after the input
  pub pointer : Pointer
  -- the window that goes to the top
  pub raise : Option (ℕ × List ℕ)
  -- the widget or Variable whose `value` becomes the number
  pub value : Option ((ℕ × List ℕ) × ℤ)
  -- the Entry whose `text` becomes these bytes, and the one whose `caret` becomes the number
  pub text : Option ((ℕ × List ℕ) × List ℕ)
  pub caret : Option ((ℕ × List ℕ) × ℤ)
  -- the Window whose `x` and `y` become the numbers
  pub moved : Option ((ℕ × List ℕ) × ℤ × ℤ)
  -- the events, in order, each with its widget and two numbers
  pub posts : List ((ℕ × List ℕ) × EventKind × ℤ × ℤ)

-- the pointer alone changes
abbrev pub only_pointer : Pointer → Effects
only_pointer pointer = record { pointer = pointer; raise = None; value = None; text = None; caret = None; moved = None; posts = [] }

-- An event is posted only where the widget has a binding of that kind.
unfoldable pub posted : EventKind → ℤ → ℤ → Row → List ((ℕ × List ℕ) × EventKind × ℤ × ℤ)
posted event a b row = if is_some (binding_of row event) then (key_of row, event, a, b) ∷ [] else []

-- the local pixel (u, v) of the pointer
abbrev pub local_x : Pointer → Rect → ℤ
local_x pointer place = pos pointer.x -ℤ place.x

abbrev pub local_y : Pointer → Rect → ℤ
local_y pointer place = pos pointer.y -ℤ place.y

-- an event with the local pixel
abbrev pub posted_at : EventKind → Pointer → Rect → Row → List ((ℕ × List ℕ) × EventKind × ℤ × ℤ)
posted_at event pointer place row = posted event (local_x pointer place) (local_y pointer place) row

-- what happens to the widget with the key in its place; where there is none, only the pointer changes
abbrev pub at_widget : List Row → ℕ × List ℕ → Option Rect → Pointer → (Rect → Row → Effects) → Effects
at_widget rows key place pointer happens =
    option_map_or (λ place. option_map_or (happens place) (row_of rows key) (only_pointer pointer)) place (only_pointer pointer)

-- The pointer: where it is, whether its button is down, what it has grabbed and where keys go. A widget is named by its
-- key, its client and name.
use Rattle.std.specs.Prelude.{ℕ, Bool, List, Option}

-- What the pointer has grabbed: nothing, a widget, or a window that is dragged by the pixel `dx` right of its corner and
-- `dy` below it.
pub data Grab : Type 0 where
  no_grab : Grab
  on_widget : (key : ℕ × List ℕ) → Grab
  drags : (window : ℕ × List ℕ) → (dx dy : ℕ) → Grab

-- Its pixel is counted from 0 at the screen's upper left corner; `focus` is the widget that keys go to.
pub record Pointer : Type 0 where
  pub x : ℕ
  pub y : ℕ
  pub down : Bool
  pub grab : Grab
  pub focus : Option (ℕ × List ℕ)

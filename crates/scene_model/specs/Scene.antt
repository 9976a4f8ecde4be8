-- A scene: what the screen shows. It is the widgets of all clients in the order of making, the open windows from top
-- to bottom, each by its key, and the pointer, on a screen of so many pixels.
use Rattle.std.specs.Prelude.{ℕ, List}
use Rattle.widget_model.specs.Rows.{Row}
use Rattle.widget_model.specs.Pointer.{Pointer}

pub record Scene : Type 0 where
  pub width : ℕ
  pub height : ℕ
  pub rows : List Row
  pub windows : List (ℕ × List ℕ)
  pub pointer : Pointer

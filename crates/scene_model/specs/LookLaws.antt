-- What is proved of looks: their numbers and texts are in their ranges, so each can be drawn.
use Rattle.std.specs.Prelude.{◌≡◌, ◌≤◌, ◌-◌, ◌*◌, ℕ, List, length, Some}
use Rattle.look_core.specs.Seen.{Seen, window, grid, frame, button, label, entry, scale, scrollbar, film, no_film, in_row}
use Rattle.look_core.specs.Drawable.{IsDrawable}
use Rattle.widget_model.specs.Rows.{Row}
use Rattle.widget_model.specs.Keys.{key_of, row_of}
use Rattle.scene_model.specs.Fit.{IsTextOf, AreFit}
use Rattle.scene_model.specs.LookOf.{look_of}
use Rattle.scene_model.specs.Colours.{look_at}
use Rattle.scene_model.specs.Scene.{Scene}

-- A title or text has at most 64 bytes, and what a Label shows 72; each prints. A caret is at most at its text's end. A
-- Scale's max is 1 to 10,000, and its value at most that. A Scrollbar's real length and view are 1 to 10,000, and its
-- value at most what the view leaves over. A film is 1 by 1 to 256 by 256, and has a byte for each pixel.
abbrev pub HasFitNumbers : Seen → Type 0
HasFitNumbers (window title) = IsTextOf 64 title
HasFitNumbers grid = Unit {0}
HasFitNumbers frame = Unit {0}
HasFitNumbers (button text held) = IsTextOf 64 text
HasFitNumbers (label shown) = IsTextOf 72 shown
HasFitNumbers (entry text caret focus) = IsTextOf 64 text × (caret ≤ length text)
HasFitNumbers (scale value max vert held) = (1 ≤ max) × (max ≤ 10000) × (value ≤ max)
HasFitNumbers (scrollbar value real view vert held) = (1 ≤ real) × (real ≤ 10000) × (1 ≤ view) × (view ≤ 10000) × (value ≤ real - view)
HasFitNumbers (film width height bytes) = (1 ≤ width) × (width ≤ 256) × (1 ≤ height) × (height ≤ 256) × (length bytes ≡ width * height)
HasFitNumbers no_film = Unit {0}

-- the look's numbers fit, and each row of it can be drawn
pub record IsFitLook (look : Seen) : Type 0 where
  pub numbers : HasFitNumbers look
  pub drawable : (y : ℕ) → IsDrawable y (in_row y look)

abbrev pub LooksAreFit : Type 0
LooksAreFit = (scene : Scene) (row : Row) → AreFit scene.rows → row_of scene.rows (key_of row) ≡ Some row → IsFitLook (look_of scene row)

abbrev pub LooksOfKeysAreFit : Type 0
LooksOfKeysAreFit = (scene : Scene) (key : ℕ × List ℕ) → AreFit scene.rows → IsFitLook (look_at scene key)

-- What is laid out after a client's command: all of the client's widgets or nothing.
use Rattle.std.specs.Prelude.{ℕ, ◌≡◌, Bool, true, false}
use Rattle.widget_model.specs.Widgets.{Widgets}
use Rattle.desk_layout.specs.Laid.{ChangesPlacesOf, AreLaidOut}

-- The widgets are laid out where they may have moved, and else stay as they are.
pub record IsSettled (client : ℕ) (moves : Bool) (old new : Widgets) : Type 0 where
  pub changed : ChangesPlacesOf client old new
  pub laid : moves ≡ true → AreLaidOut client old new
  pub still : moves ≡ false → new ≡ old

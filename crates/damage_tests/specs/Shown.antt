-- What a view needs: the open windows are live Windows, each once, and their places are kept.
use Rattle.std.specs.Prelude.{ℕ, List}
use Rattle.widget_model.specs.Widgets.{Widgets}
use Rattle.scene_core.specs.View.{AreWindows, KeepsPlaces}

pub record IsShown (widgets : Widgets) (windows : List ℕ) : Type 0 where
  pub windows_are : AreWindows widgets windows
  pub kept : KeepsPlaces widgets windows

-- Kept places that are the ones due: what holds of a desk's widgets at every moment.
use Rattle.std.specs.Prelude.{ℕ, ◌≡◌, Some}
use Rattle.widget_model.specs.Rows.{Row}
use Rattle.widget_model.specs.Widgets.{Widgets, rows_of, row_at, place_at}
use Rattle.scene_model.specs.DuePlaces.{due_place}

-- The kept place of each Window and of each widget under one is its place, and no other widget has one.
pub record HaveDuePlaces (widgets : Widgets) : Type 0 where
  pub each : (id : ℕ) (row : Row) → row_at widgets.entries id ≡ Some row → place_at widgets id ≡ due_place (rows_of widgets) row

-- Where widgets are, by their numbers: the place of a widget that hangs under a Window, and the widgets under a Window
-- whose kept places are their places.
use Rattle.std.specs.Prelude.{ℕ, ◌≡◌, Some}
use Rattle.std.specs.Option.{option_map, option_and_then}
use Rattle.kind_core.specs.declared.kinds.Kind.TheVariants.{Window}
use Rattle.widget_model.specs.Widgets.{Widgets, rows_of, row_at, row_kind, place_at}
use Rattle.widget_model.specs.Relatives.{root_id}
use Rattle.scene_model.specs.Placing.{place_in}

-- the numbered widget is a Window, or hangs under one
abbrev pub IsInWindow : Widgets → ℕ → Type 0
IsInWindow widgets id = option_and_then (row_kind widgets.entries) (root_id widgets id) ≡ Some Window

-- the kept place of the Window and of each widget under it is its place
pub record HasPlaces (widgets : Widgets) (window : ℕ) : Type 0 where
  pub each : (id : ℕ) → root_id widgets id ≡ Some window → place_at widgets id ≡ option_map (place_in (rows_of widgets)) (row_at widgets.entries id)

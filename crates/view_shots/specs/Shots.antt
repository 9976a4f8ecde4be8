-- The shot of a view: what the screen shows at one moment, by the numbers of the widgets.
use Rattle.std.specs.Prelude.{ℕ, ℤ, pos, ◌≡◌, Bool, true, false, nat_eq, List, map, None, Some, IsSomeAnd}
use Rattle.std.specs.List.{list_any}
use Rattle.std.specs.Option.{option_map_or}
use Rattle.geom_core.specs.declared.rectangle.Rect.{Rect}
use Rattle.geom_core.specs.Rect.{in_rect}
use Rattle.widget_model.specs.Widgets.{Widgets, rows_of, row_at, key_at}
use Rattle.widget_model.specs.Relatives.{parent_id, root_id}
use Rattle.tree_core.specs.declared.pointer.Pointer.{Pointer}
use Rattle.scene_model.specs.Scene.{Scene}
use Rattle.scene_model.specs.Placing.{place_in}
use Rattle.scene_model.specs.Showing.{shows_at}
use Rattle.shot_core.specs.Shot.{Seen, spot_at}
use Rattle.shot_core.specs.declared.spot.Spot.{Spot}
use Rattle.scene_core.specs.View.{scene_from}

-- the place of the numbered widget, which has no pixel where no widget has the number
abbrev pub place_by : Widgets → ℕ → Rect
place_by widgets id = option_map_or (place_in (rows_of widgets)) (row_at widgets.entries id) (record { x = pos 0; y = pos 0; w = 0; h = 0 })

-- whether the numbered widget shows the pixel
abbrev pub shows_by : Widgets → Scene → ℕ → ℤ → ℤ → Bool
shows_by widgets scene id x y = option_map_or (λ key. shows_at scene key x y) (key_at widgets.entries id) false

-- A widget is shown where it is an open window or hangs under one: its number is live, and its root is open.
unfoldable pub is_shown_id : Widgets → List ℕ → ℕ → Bool
is_shown_id widgets windows id = option_map_or (λ root. list_any (nat_eq root) windows) (root_id widgets id) false

-- The spot has the numbers of the widget's parent and of its window, its place, and just the pixels that it shows.
pub record IsSpotBy (widgets : Widgets) (scene : Scene) (id : ℕ) (spot : Spot) : Type 0 where
  pub parent : spot.parent ≡ parent_id widgets id
  pub window : root_id widgets id ≡ Some spot.window
  pub place : spot.place ≡ place_by widgets id
  pub shown : (x y : ℤ) → in_rect spot.shown x y ≡ shows_by widgets scene id x y

-- The shot of these widgets, open windows and pointer on a screen of that size has the open windows from top to bottom,
-- each with its place, and a spot for each widget that is shown. No other number has one.
pub record IsShotBy (widgets : Widgets) (windows : List ℕ) (pointer : Pointer) (width height : ℕ) (shot : Seen) : Type 0 where
  pub order : shot.windows ≡ map (λ id. (id, place_by widgets id)) windows
  pub shown : (id : ℕ) → is_shown_id widgets windows id ≡ true → IsSomeAnd (spot_at shot id) (IsSpotBy widgets (scene_from widgets windows pointer width height) id)
  pub unshown : (id : ℕ) → is_shown_id widgets windows id ≡ false → spot_at shot id ≡ None

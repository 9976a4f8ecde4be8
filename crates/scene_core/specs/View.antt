-- A view is seen as a scene: each widget is named by its key, its client and name, in place of its number. In a view of
-- a desk the open windows are live Windows, each once, and the screen's size is in range.
use Rattle.std.specs.Prelude.{ℕ, ◌≡◌, ◌≤◌, List, [], ◌∷◌, Some}
use Rattle.std.specs.List.{All, Contains}
use Rattle.std.specs.Option.{option_map, option_map_or}
use Rattle.kind_core.specs.declared.kinds.Kind.TheVariants.{Window}
use Rattle.widget_model.specs.Rows.{Row}
use Rattle.widget_model.specs.Widgets.{key_at, Widgets, rows_of, row_at, row_kind, place_at}
use Rattle.widget_model.specs.Forest.{IsWidgets}
use Rattle.widget_model.specs.Relatives.{root_id}
use Rattle.tree_core.specs.declared.pointer.Pointer.{Pointer}
use Rattle.tree_core.specs.Holds.{pointer_seen}
use Rattle.scene_model.specs.Scene.{Scene}
use Rattle.scene_model.specs.Placing.{place_in}
use Rattle.scene_core.specs.declared.view.View.{View}
use Rattle.stack_core.specs.Stack.{IsStack}

-- the keys of the numbered rows; a number that names no row has none
abbrev pub keys_of : List (ℕ × Row) → List ℕ → List (ℕ × List ℕ)
keys_of entries [] = []
keys_of entries (id ∷ ids) = option_map_or (λ key. key ∷ keys_of entries ids) (key_at entries id) (keys_of entries ids)

-- the scene of these widgets, open windows and pointer on a screen of that size
abbrev pub scene_from : Widgets → List ℕ → Pointer → ℕ → ℕ → Scene
scene_from widgets windows pointer width height =
    record {
      width = width;
      height = height;
      rows = rows_of widgets;
      windows = keys_of widgets.entries windows;
      pointer = pointer_seen widgets.entries pointer;
    }

abbrev pub scene_of : View → Scene
scene_of view = scene_from view.tree.now view.stack.now view.pointer.now view.width view.height

-- the open windows are live Windows, each once
pub record AreWindows (widgets : Widgets) (windows : List ℕ) : Type 0 where
  pub each : All (λ id. row_kind widgets.entries id ≡ Some Window) windows
  pub once : IsStack windows

pub record IsView (view : View) : Type 0 where
  pub valid : IsWidgets view.tree.now
  pub windows : AreWindows view.tree.now view.stack.now
  pub width_least : 16 ≤ view.width
  pub width_most : view.width ≤ 1024
  pub height_least : 16 ≤ view.height
  pub height_most : view.height ≤ 768

-- The kept place of each open window and of each widget under one is its place.
pub record KeepsPlaces (widgets : Widgets) (windows : List ℕ) : Type 0 where
  pub each : (id window : ℕ) → Contains windows window → root_id widgets id ≡ Some window → place_at widgets id ≡ option_map (place_in (rows_of widgets)) (row_at widgets.entries id)

-- the numbered widget is an open window, or hangs under one
pub record IsUnderOpen (widgets : Widgets) (windows : List ℕ) (id : ℕ) : Type 0 where
  pub window : ℕ
  pub among : Contains windows window
  pub root : root_id widgets id ≡ Some window

-- An inner word of the proofs: what a view lays over what, widgets going by their numbers.
use Rattle.std.specs.Prelude.{◌≡◌, ℕ, ◌+◌, ◌/◌, ◌%◌, ℤ, pos, List, map, Option, Some, None}
use Rattle.std.specs.List.{range_with_len, Contains}
use Rattle.std.specs.Option.{option_map_or}
use Rattle.geom_core.specs.declared.rectangle.Rect.{Rect}
use Rattle.widget_model.specs.Widgets.{Widgets, rows_of, row_at, row_kind, IsLive}
use Rattle.widget_model.specs.Relatives.{child_id, root_id}
use Rattle.widget_model.specs.Forest.{IsWidgets}
use Rattle.scene_model.specs.Fit.{AreFit}
use Rattle.tree_core.specs.Children.{cells_of}
use Rattle.scene_model.specs.Scene.{Scene}
use Rattle.scene_model.specs.Placing.{place_in}
use Rattle.scene_model.specs.LookOf.{look_of}
use Rattle.scene_model.specs.Colours.{colour_in}
use Rattle.scene_core.specs.declared.view.View.{View}
use Rattle.scene_core.specs.View.{scene_of, IsView, KeepsPlaces}
use Rattle.painter_core.specs.Layers.{Layers}

-- the place of the numbered widget, which has no pixel where there is none
unfoldable pub rect_at : Widgets → ℕ → Rect
rect_at widgets id = option_map_or (place_in (rows_of widgets)) (row_at widgets.entries id) (record { x = pos 0; y = pos 0; w = 0; h = 0 })

-- the child in a slot: the slots go down column by column, from 0
abbrev pub child_in_slot : Widgets → ℕ → ℕ → Option ℕ
child_in_slot widgets id slot = child_id widgets id (slot / 16 + 1) (slot % 16 + 1)

-- how many slots the numbered widget has
abbrev pub slots_of : Widgets → ℕ → ℕ
slots_of widgets id = option_map_or cells_of (row_kind widgets.entries id) 0

unfoldable pub slots_below : Widgets → List ℕ → Option ℕ → List (Option ℕ)
slots_below widgets windows None = map Some windows
slots_below widgets windows (Some id) = map (child_in_slot widgets id) (range_with_len 0 (slots_of widgets id))

-- what the numbered widget shows at a pixel, or the desk's own colour
unfoldable pub colour_below : Widgets → Scene → Option ℕ → ℤ → ℤ → ℕ
colour_below widgets scene None x y = 2
colour_below widgets scene (Some id) x y = option_map_or (λ row. colour_in (look_of scene row) (place_in scene.rows row) x y) (row_at widgets.entries id) 2

unfoldable pub layers_of : View → Layers
layers_of view =
    record {
      rect = rect_at view.tree.now;
      below = slots_below view.tree.now view.stack.now;
      colour = colour_below view.tree.now (scene_of view);
    }

-- the number names an open window of the view, or a widget under one
pub record IsThere (view : View) (id : ℕ) : Type 0 where
  pub live : IsLive view.tree.now id
  pub window : ℕ
  pub is_open : Contains view.stack.now window
  pub root : root_id view.tree.now id ≡ Some window

-- what painting asks of a view
pub record IsPaintable (view : View) : Type 0 where
  pub is_view : IsView view
  pub widgets : IsWidgets view.tree.now
  pub fit : AreFit (rows_of view.tree.now)
  pub places : KeepsPlaces view.tree.now view.stack.now

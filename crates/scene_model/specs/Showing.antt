-- What of a widget the screen shows, and the widget on top at each pixel. A pixel is (x, y), counted from 0 at the
-- screen's upper left corner.
use Rattle.std.specs.Prelude.{ℕ, zero, suc, ℤ, pos, Bool, false, ◌&&◌, List, Option}
use Rattle.std.specs.List.{find, list_any}
use Rattle.std.specs.Option.{option_map, option_map_or}
use Rattle.geom_core.specs.declared.rectangle.Rect.{Rect}
use Rattle.geom_core.specs.Rect.{in_rect}
use Rattle.geom_core.specs.Count.{screen_of}
use Rattle.widget_model.specs.Trees.{is_child, most_levels}
use Rattle.widget_model.specs.Keys.{key_of, same_key, row_of, parent_key, root_key}
use Rattle.scene_model.specs.Scene.{Scene}
use Rattle.scene_model.specs.Placing.{place_in}

-- the place of the widget with this key, which has no pixel where there is none
unfoldable pub place_of : Scene → ℕ × List ℕ → Rect
place_of scene key = option_map_or (place_in scene.rows) (row_of scene.rows key) (record { x = pos 0; y = pos 0; w = 0; h = 0 })

-- the key of the widget in which it hangs
unfoldable pub parent_in : Scene → ℕ × List ℕ → Option (ℕ × List ℕ)
parent_in scene key = parent_key scene.rows key

abbrev pub on_screen : Scene → ℤ → ℤ → Bool
on_screen scene x y = in_rect (screen_of scene.width scene.height) x y

-- A widget shows the pixels of its place that its parent shows; a Window those that are on the screen. `most` is how
-- many levels it goes up at the most.
abbrev pub shows_in : ℕ → Scene → ℕ × List ℕ → ℤ → ℤ → Bool
shows_in zero scene key x y = false
shows_in (suc most) scene key x y =
    in_rect (place_of scene key) x y && option_map_or (λ parent. shows_in most scene parent x y) (parent_in scene key) (on_screen scene x y)

unfoldable pub shows_at : Scene → ℕ × List ℕ → ℤ → ℤ → Bool
shows_at scene key x y = shows_in most_levels scene key x y

-- the first open window, from the top, that shows the pixel
abbrev pub window_at : Scene → ℤ → ℤ → Option (ℕ × List ℕ)
window_at scene x y = find (λ window. shows_at scene window x y) scene.windows

-- the child that shows the pixel
abbrev pub child_at : Scene → ℕ × List ℕ → ℤ → ℤ → Option (ℕ × List ℕ)
child_at scene key x y =
    option_map key_of (find (λ row. is_child key.0 key.1 row && shows_at scene (key_of row) x y) scene.rows)

-- from a widget down to the child that shows the pixel, as long as there is one
abbrev pub lowest_in : ℕ → Scene → ℤ → ℤ → ℕ × List ℕ → ℕ × List ℕ
lowest_in zero scene x y key = key
lowest_in (suc most) scene x y key = option_map_or (lowest_in most scene x y) (child_at scene key x y) key

-- the key of the widget on top at the pixel: none where no open window shows it
unfoldable pub top_of : Scene → ℤ → ℤ → Option (ℕ × List ℕ)
top_of scene x y = option_map (lowest_in most_levels scene x y) (window_at scene x y)

-- whether the window is open
abbrev pub is_open_in : Scene → ℕ × List ℕ → Bool
is_open_in scene window = list_any (same_key window) scene.windows

-- whether the widget is the window or hangs under it
abbrev pub is_under : Scene → ℕ × List ℕ → ℕ × List ℕ → Bool
is_under scene window key = same_key window (root_key scene.rows key)

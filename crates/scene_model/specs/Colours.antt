-- The colour of each pixel of a scene, and its picture: the scene drawn afresh. Colours are palette numbers; 2 is the
-- desk's own.
use Rattle.std.specs.Prelude.{ℕ, ◌*◌, ℤ, pos, ◌-ℤ◌, ◌/◌, ◌%◌, List, map, unsigned_abs}
use Rattle.std.specs.List.{range_with_len}
use Rattle.std.specs.Option.{option_map_or}
use Rattle.look_core.specs.Seen.{Seen, no_film}
use Rattle.look_core.specs.Colour.{colour_of}
use Rattle.geom_core.specs.declared.rectangle.Rect.{Rect}
use Rattle.widget_model.specs.Keys.{row_of}
use Rattle.scene_model.specs.Scene.{Scene}
use Rattle.scene_model.specs.Showing.{place_of, top_of}
use Rattle.scene_model.specs.LookOf.{look_of}

-- the look of the widget with this key
unfoldable pub look_at : Scene → ℕ × List ℕ → Seen
look_at scene key = option_map_or (look_of scene) (row_of scene.rows key) no_film

-- what a look shows at the pixel (x, y), in this place: it is asked at the local pixel, counted from the place's corner
unfoldable pub colour_in : Seen → Rect → ℤ → ℤ → ℕ
colour_in look place x y = colour_of look place.w place.h (unsigned_abs (x -ℤ place.x)) (unsigned_abs (y -ℤ place.y))

-- the colour of the pixel: what the widget on top shows there, or the desk's own where there is none
unfoldable pub colour_at : Scene → ℤ → ℤ → ℕ
colour_at scene x y = option_map_or (λ key. colour_in (look_at scene key) (place_of scene key) x y) (top_of scene x y) 2

-- the whole scene drawn afresh, row after row from the top: the k-th byte is the pixel (k mod width, k / width)
unfoldable pub picture_of : Scene → List ℕ
picture_of scene =
    map (λ k. colour_at scene (pos (k % scene.width)) (pos (k / scene.width))) (range_with_len 0 (scene.width * scene.height))

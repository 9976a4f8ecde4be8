-- Where a film lies on the screen, and which pixels of the screen show a band of it: those whose top is the VScreen, at a
-- local pixel of its film that is in the band. A film lies at the corner of its VScreen's place.
use Rattle.std.specs.Prelude.{ℕ, ℤ, ◌-ℤ◌, Bool, false, ◌&&◌, List, unsigned_abs}
use Rattle.std.specs.Option.{option_map_or}
use Rattle.geom_core.specs.declared.rectangle.Rect.{Rect}
use Rattle.geom_core.specs.Rect.{in_rect}
use Rattle.widget_model.specs.Keys.{same_key, row_of}
use Rattle.vscreen_core.specs.declared.band.Band.{Band}
use Rattle.vscreen_core.specs.Band.{has_pixel}
use Rattle.vscreen_core.specs.Picture.{pixel_number}
use Rattle.vscreen_core.specs.FilmState.{FilmState}
use Rattle.scene_model.specs.Scene.{Scene}
use Rattle.scene_model.specs.Showing.{place_of, top_of}

-- Where a film of this size lies on the screen whose VScreen has this place. It may be smaller than the place, and also
-- larger.
abbrev pub lying_at : Rect → ℕ → ℕ → Rect
lying_at place width height = record { x = place.x; y = place.y; w = width; h = height }

-- whether the pixel (x, y) of the screen is one of the film where it lies, and its number in the film is in the band
unfoldable pub in_band : Rect → Band → ℤ → ℤ → Bool
in_band film band x y =
    in_rect film x y && has_pixel band (pixel_number film.w (unsigned_abs (x -ℤ film.x)) (unsigned_abs (y -ℤ film.y)))

-- whether the widget with this key is on top at the pixel
abbrev pub is_top : Scene → ℕ × List ℕ → ℤ → ℤ → Bool
is_top scene key x y = option_map_or (same_key key) (top_of scene x y) false

-- the same of the film of the widget with this key; a widget with no film has no pixel in a band
abbrev pub film_in_band : Scene → ℕ × List ℕ → Band → ℤ → ℤ → Bool
film_in_band scene key band x y =
    option_map_or
    (λ row. option_map_or (λ (film : FilmState). in_band (lying_at (place_of scene key) film.width film.height) band x y) row.film false)
    (row_of scene.rows key)
    false

-- whether the screen shows a pixel of the band there: the widget with this key is on top, and it is one of its film's
unfoldable pub shows_band : Scene → ℕ × List ℕ → Band → ℤ → ℤ → Bool
shows_band scene key band x y = is_top scene key x y && film_in_band scene key band x y

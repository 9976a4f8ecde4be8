-- The beat: what a tick does to the desk before anything is drawn, and the bands of frames that it then draws before
-- all else. The film of each admitted VScreen draws its band and goes on to its next phase; nothing else changes.
use Rattle.std.specs.Prelude.{ℕ, ℤ, pos, ◌/◌, ◌%◌, Bool, false, ◌&&◌, nat_lt, List, map, if◌then◌else◌}
use Rattle.std.specs.List.{count_by, range_with_len}
use Rattle.std.specs.Option.{option_map_or}
use Rattle.vscreen_core.specs.declared.band.Band.{Band}
use Rattle.vscreen_core.specs.Changes.{beaten, band_now, band_drawn}
use Rattle.widget_model.specs.Rows.{Row}
use Rattle.widget_model.specs.Trees.{is_admitted}
use Rattle.scene_model.specs.Shapes.{area}
use Rattle.scene_model.specs.Showing.{place_of, top_of}
use Rattle.scene_model.specs.Bands.{lying_at}
use Rattle.scene_model.specs.Bands as bands
use Rattle.desk_model.specs.Desk.{Desk, Admission}
use Rattle.desk_model.specs.Screens.{film_named, with_film_changed}
use Rattle.desk_model.specs.Seen.{scene_of}

-- the row of an admitted VScreen with its film after a beat; every other row stays
abbrev pub row_beaten : Row → Row
row_beaten row = if is_admitted row then with_film_changed beaten row else row

unfoldable pub beat : Desk → Desk
beat desk = record desk { rows = map row_beaten desk.rows }

-- the band that the next beat draws of the admitted VScreen; without a film it has no pixel
abbrev pub band_next : List Row → Admission → Band
band_next rows admission = option_map_or band_now (film_named rows admission.client admission.name) (record { from = 0; to = 0 })

-- the bands that the next beat draws, each with its VScreen's key, in the order of admission
unfoldable pub bands_next : Desk → List ((ℕ × List ℕ) × Band)
bands_next desk = map (λ admission. ((admission.client, admission.name), band_next desk.rows admission)) desk.roster

-- Whether the pixel is one of the film of the VScreen with this key, where it lies, and in the band that the last beat
-- drew of it. A VScreen that isn't admitted has no band.
abbrev pub in_band_of : Desk → ℕ × List ℕ → ℤ → ℤ → Bool
in_band_of desk key x y =
    option_map_or
    (λ film. nat_lt 0 film.period && bands.in_band (lying_at (place_of (scene_of desk) key) film.width film.height) (band_drawn film) x y)
    (film_named desk.rows key.0 key.1)
    false

-- Whether the pixel (x, y) of the screen lies in a band that the beat to this desk has drawn: an admitted VScreen is on
-- top there, and the pixel is in its band.
unfoldable pub in_band : Desk → ℕ → ℕ → Bool
in_band desk x y = option_map_or (λ key. in_band_of desk key (pos x) (pos y)) (top_of (scene_of desk) (pos x) (pos y)) false

-- The same of the k-th pixel of the screen, which is the pixel (k mod width, k / width).
abbrev pub is_banded : Desk → ℕ → Bool
is_banded desk k = in_band desk (k % desk.shape.width) (k / desk.shape.width)

-- how many pixels of the screen lie in a band
unfoldable pub band_count : Desk → ℕ
band_count desk = count_by (is_banded desk) (range_with_len 0 (area desk.shape))

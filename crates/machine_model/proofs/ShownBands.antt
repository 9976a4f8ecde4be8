-- A pixel of the screen that shows a band of a film: it lies in a band of the desk, and its colour is the film's byte of
-- its number.
use Rattle.std.proofs.Common.{◌≡◌, ℕ, ℤ, pos, ◌-ℤ◌, Bool, true, false, ◌&&◌, nat_lt, get_or, unsigned_abs, List, Option, Some, None, IfSome, refl, sym, ap, ◌∙◌, subst}
use Rattle.std.proofs.lemmas.Bool.{true≢false, and_parts, and_from, lt-ltb, cond-true}
use Rattle.std.specs.Option.{option_map_or, option_and_then}
use Rattle.geom_core.specs.declared.rectangle.Rect.{Rect}
use Rattle.geom_core.specs.Rect.{in_span, in_rect}
use Rattle.kind_core.specs.declared.kinds.Kind.{Kind}
use Rattle.kind_core.specs.declared.kinds.Kind.TheVariants.{VScreen}
use Rattle.look_core.specs.declared.palette.TheConstants.{FILM_GROUND}
use Rattle.look_core.specs.Seen as seen
use Rattle.look_core.specs.Seen.{Seen, in_row}
use Rattle.look_core.specs.Cases.{film_colour}
use Rattle.look_core.specs.Colour.{colour_in_row, colour_of}
use Rattle.vscreen_core.specs.declared.band.Band.{Band}
use Rattle.vscreen_core.specs.Band.{has_pixel}
use Rattle.vscreen_core.specs.Changes.{band_drawn}
use Rattle.vscreen_core.specs.FilmState.{FilmState, IsFilm}
use Rattle.vscreen_core.specs.Picture.{pixel_of, row_of}
use Rattle.vscreen_core.proofs.Pictures.{rows_hold_pixels}
use Rattle.widget_model.specs.Rows.{Row}
use Rattle.widget_model.specs.Named.{has_name, row_named}
use Rattle.widget_model.specs.Keys.{same_key}
use Rattle.widget_model.specs.Fitting.{IsFitFilm}
use Rattle.widget_model.proofs.Hanging.{find-element}
use Rattle.scene_model.specs.Scene.{Scene}
use Rattle.scene_model.specs.LookOf.{look_by, look_of}
use Rattle.scene_model.specs.Showing.{place_of, top_of}
use Rattle.scene_model.specs.Bands as bands
use Rattle.scene_model.specs.Bands.{lying_at, is_top, film_in_band, shows_band}
use Rattle.scene_model.specs.Colours.{look_at, colour_in, colour_at}
use Rattle.desk_model.specs.Desk.{Desk}
use Rattle.desk_model.specs.DeskFacts.{IsDesk}
use Rattle.desk_model.specs.Screens.{film_named}
use Rattle.desk_model.specs.Seen.{scene_of, colour}
use Rattle.desk_model.specs.Beat.{in_band, in_band_of}
use Rattle.machine_model.proofs.BeatColours.{film_look, screen_look, fit_film}
use Rattle.machine_model.proofs.DamageKeys.{same_key-is}
use Rattle.machine_model.proofs.FilmPixels.{IsApart-in_span, number_on}

-- a film's pixel shows the byte of its number
film_shows : (film : FilmState) (place : Rect) (x y : ℤ) → IsFilm film → in_rect (lying_at place film.width film.height) x y ≡ true → colour_in (film_look film) place x y ≡ pixel_of film.shown (number_on (lying_at place film.width film.height) x y)
unfolding colour_in colour_of colour_in_row in_row film_colour
film_shows film place x y is lies =
    let parts = and_parts (in_span place.x film.width x) (in_span place.y film.height y) lies in
    let across = IsApart-in_span place.x film.width x parts.0 in
    let down = IsApart-in_span place.y film.height y parts.1 in
    let inside : (nat_lt (unsigned_abs (x -ℤ place.x)) film.width && nat_lt (unsigned_abs (y -ℤ place.y)) film.height) ≡ true = and_from (nat_lt (unsigned_abs (x -ℤ place.x)) film.width) (nat_lt (unsigned_abs (y -ℤ place.y)) film.height) (lt-ltb (unsigned_abs (x -ℤ place.x)) film.width across.within) (lt-ltb (unsigned_abs (y -ℤ place.y)) film.height down.within) in
    cond-true (nat_lt (unsigned_abs (x -ℤ place.x)) film.width && nat_lt (unsigned_abs (y -ℤ place.y)) film.height) (get_or (row_of film.width film.shown (unsigned_abs (y -ℤ place.y))) (unsigned_abs (x -ℤ place.x)) 0) FILM_GROUND inside
    ∙ (rows_hold_pixels film.width film.height (unsigned_abs (x -ℤ place.x)) (unsigned_abs (y -ℤ place.y)) film.shown across.within down.within is.shown_size).0

-- what holds where the screen shows the band that was last drawn of the VScreen's film
pub record ShowsDrawn (desk : Desk) (key : ℕ × List ℕ) (film : FilmState) (x y : ℤ) : Type 0 where
  pub top : top_of (scene_of desk) x y ≡ Some key
  pub lies : in_rect (lying_at (place_of (scene_of desk) key) film.width film.height) x y ≡ true
  pub drawn : has_pixel (band_drawn film) (number_on (lying_at (place_of (scene_of desk) key) film.width film.height) x y) ≡ true

top-is : (key : ℕ × List ℕ) (o : Option (ℕ × List ℕ)) → option_map_or (same_key key) o false ≡ true → o ≡ Some key
top-is key None h = absurd (true≢false (sym h))
top-is key (Some other) h = ap Some (sym (same_key-is key other h))

film_in_band-is : (scene : Scene) (key : ℕ × List ℕ) (film : FilmState) (band : Band) (x y : ℤ) → film_named scene.rows key.0 key.1 ≡ Some film → film_in_band scene key band x y ≡ bands.in_band (lying_at (place_of scene key) film.width film.height) band x y
film_in_band-is scene key film band x y there = by (row_named scene.rows key.0 key.1) there
  where
    test : FilmState → Bool
    test f = bands.in_band (lying_at (place_of scene key) f.width f.height) band x y

    by : (o : Option Row) → option_and_then (λ (row : Row). row.film) o ≡ Some film → option_map_or (λ (row : Row). option_map_or (λ (f : FilmState). bands.in_band (lying_at (place_of scene key) f.width f.height) band x y) row.film false) o false ≡ bands.in_band (lying_at (place_of scene key) film.width film.height) band x y
    by None h = absurd (cc)
    by (Some row) h = ap (λ (o : Option FilmState). option_map_or test o false) h

pub ShowsDrawn-shows_band : (desk : Desk) (key : ℕ × List ℕ) (film : FilmState) (x y : ℤ) → film_named desk.rows key.0 key.1 ≡ Some film → shows_band (scene_of desk) key (band_drawn film) x y ≡ true → ShowsDrawn desk key film x y
unfolding shows_band bands.in_band
ShowsDrawn-shows_band desk key film x y there shows =
    let parts = and_parts (is_top (scene_of desk) key x y) (film_in_band (scene_of desk) key (band_drawn film) x y) shows in
    let banded = sym (film_in_band-is (scene_of desk) key film (band_drawn film) x y there) ∙ parts.1 in
    let lying = lying_at (place_of (scene_of desk) key) film.width film.height in
    let within = and_parts (in_rect lying x y) (has_pixel (band_drawn film) (number_on lying x y)) banded in
    record { top = top-is key (top_of (scene_of desk) x y) parts.0; lies = within.0; drawn = within.1 }

-- it lies in a band of the desk, where the VScreen is admitted
pub in_band-drawn : (desk : Desk) (key : ℕ × List ℕ) (film : FilmState) (x y : ℕ) → film_named desk.rows key.0 key.1 ≡ Some film → nat_lt 0 film.period ≡ true → ShowsDrawn desk key film (pos x) (pos y) → in_band desk x y ≡ true
unfolding in_band bands.in_band
in_band-drawn desk key film x y there on shown =
    let lying = lying_at (place_of (scene_of desk) key) film.width film.height in
    ap (λ (o : Option (ℕ × List ℕ)). option_map_or (λ (k : ℕ × List ℕ). in_band_of desk k (pos x) (pos y)) o false) shown.top
    ∙ ap (λ (o : Option FilmState). option_map_or (λ (f : FilmState). nat_lt 0 f.period && bands.in_band (lying_at (place_of (scene_of desk) key) f.width f.height) (band_drawn f) (pos x) (pos y)) o false) there
    ∙ and_from (nat_lt 0 film.period) (in_rect lying (pos x) (pos y) && has_pixel (band_drawn film) (number_on lying (pos x) (pos y))) on (and_from (in_rect lying (pos x) (pos y)) (has_pixel (band_drawn film) (number_on lying (pos x) (pos y))) shown.lies shown.drawn)

-- and has the film's byte
look_at-film : (desk : Desk) (key : ℕ × List ℕ) (film : FilmState) → IsDesk desk → film_named desk.rows key.0 key.1 ≡ Some film → look_at (scene_of desk) key ≡ film_look film
unfolding look_at look_of
look_at-film desk key film is there = by (row_named desk.rows key.0 key.1) refl there
  where
    scene : Scene
    scene = scene_of desk

    screen : (row : Row) (o : Option FilmState) → row.film ≡ o → o ≡ Some film → row.kind ≡ VScreen → look_by row.kind scene row ≡ film_look film
    screen row o has h kind = ap (λ (k : Kind). look_by k scene row) kind ∙ ap screen_look (has ∙ h)

    kind_is : (row : Row) → IsFitFilm row → row.film ≡ Some film → row.kind ≡ VScreen
    kind_is row fit h =
        let F : Option FilmState → Type 0 = λ o. IfSome o (λ (f : FilmState). (row.kind ≡ VScreen) × IsFilm f) in
        (subst F h fit).0

    by : (o : Option Row) → row_named desk.rows key.0 key.1 ≡ o → option_and_then (λ (row : Row). row.film) o ≡ Some film → option_map_or (look_of scene) o seen.no_film ≡ film_look film
    by None found h = absurd (cc)
    by (Some row) found h =
        let at = find-element (has_name key.0 key.1) desk.rows row found in
        screen row row.film refl h (kind_is row (fit_film desk.rows at.0 row is.rows.films at.1) h)

pub colour-drawn : (desk : Desk) (key : ℕ × List ℕ) (film : FilmState) (x y : ℕ) → IsDesk desk → IsFilm film → film_named desk.rows key.0 key.1 ≡ Some film → ShowsDrawn desk key film (pos x) (pos y)
    → colour desk x y ≡ pixel_of film.shown (number_on (lying_at (place_of (scene_of desk) key) film.width film.height) (pos x) (pos y))
unfolding colour colour_at
colour-drawn desk key film x y is whole there shown =
    ap (λ (o : Option (ℕ × List ℕ)). option_map_or (λ (k : ℕ × List ℕ). colour_in (look_at (scene_of desk) k) (place_of (scene_of desk) k) (pos x) (pos y)) o 2) shown.top
    ∙ ap (λ (look : Seen). colour_in look (place_of (scene_of desk) key) (pos x) (pos y)) (look_at-film desk key film is there)
    ∙ film_shows film (place_of (scene_of desk) key) (pos x) (pos y) whole shown.lies

-- The colours of a beat: outside the bands that it draws each pixel keeps its own.
use Rattle.std.proofs.Common.{◌≡◌, ℕ, zero, suc, ◌*◌, ◌<◌, ℤ, pos, ◌+ℤ◌, ◌-ℤ◌, Bool, true, false, cond, ◌&&◌, nat_lt, int_le, int_lt, get_or, unsigned_abs, List, [], ◌∷◌, length, slice_get, Option, Some, None, IfSome, refl, sym, ap, ap₂, ◌∙◌, subst, arith}
use Rattle.std.proofs.lemmas.Bool.{and_parts, and_from, ltb-true, cond-false}
use Rattle.std.proofs.lemmas.Int.{ints}
use Rattle.std.proofs.lemmas.List.Elements.{All-head, All-tail}
use Rattle.std.specs.Option.{option_map, option_map_or, option_and_then}
use Rattle.geom_core.specs.declared.rectangle.Rect.{Rect}
use Rattle.geom_core.specs.Rect.{in_span, in_rect}
use Rattle.kind_core.specs.declared.kinds.Kind.{Kind}
use Rattle.kind_core.specs.declared.kinds.Kind.TheVariants.{Window, Grid, Frame, Button, Label, Entry, Scale, Scrollbar, Variable, VScreen}
use Rattle.kind_core.specs.declared.kinds.Attr.TheVariants.{Text, Max, Real, View, Value}
use Rattle.kind_core.specs.Effective.{raw_value, scale_value, scrollbar_value, label_text}
use Rattle.look_core.specs.declared.palette.TheConstants.{FILM_GROUND}
use Rattle.look_core.specs.Seen as seen
use Rattle.look_core.specs.Seen.{Seen, in_row}
use Rattle.look_core.specs.Cases.{film_colour}
use Rattle.look_core.specs.Colour.{colour_in_row, colour_of}
use Rattle.vscreen_core.specs.declared.band.Band.{Band}
use Rattle.vscreen_core.specs.Band.{has_pixel}
use Rattle.vscreen_core.specs.Changes.{beaten, band_now, band_drawn, frame_now}
use Rattle.vscreen_core.specs.FilmState.{FilmState, IsFilm, pixels_in}
use Rattle.vscreen_core.specs.Picture.{pixel_of, pixel_number, row_of}
use Rattle.vscreen_core.proofs.Films.{IsFilm-beaten}
use Rattle.vscreen_core.proofs.Periods.{only_the_band, band_was_drawn, beaten_keeps}
use Rattle.vscreen_core.proofs.Pictures.{rows_hold_pixels}
use Rattle.widget_model.specs.Rows.{Row}
use Rattle.widget_model.specs.Named.{has_name}
use Rattle.widget_model.specs.Keys as keys
use Rattle.widget_model.specs.Fitting.{IsFitFilm, HaveFitFilms}
use Rattle.widget_model.proofs.Hanging.{find-element}
use Rattle.scene_model.specs.Scene.{Scene}
use Rattle.scene_model.specs.Values.{text_of, count_of, is_vertical, linked_value, number_of}
use Rattle.scene_model.specs.LookOf.{is_held, look_by, look_of}
use Rattle.scene_model.specs.Showing.{place_of, top_of}
use Rattle.scene_model.specs.Bands as bands
use Rattle.scene_model.specs.Bands.{lying_at}
use Rattle.scene_model.specs.Colours.{look_at, colour_in, colour_at}
use Rattle.scene_model.proofs.StillTops.{scene_changed, row_of-still, place_of-still, top_of-still}
use Rattle.scene_model.proofs.TopWidget.{top_is_on_top}
use Rattle.scene_model.proofs.Apart.{shown_lies_in_place}
use Rattle.desk_model.specs.Desk.{Desk}
use Rattle.desk_model.specs.DeskFacts.{IsDesk}
use Rattle.desk_model.specs.Screens.{film_named, with_film_changed}
use Rattle.desk_model.specs.Seen.{scene_of, colour}
use Rattle.desk_model.specs.Beat.{row_beaten, beat, in_band, in_band_of}
use Rattle.desk_model.proofs.BeatRows.{film_beaten, row_beaten-is, linked_value-beaten, film_named-beaten, MovesNothing-beaten}
use Rattle.machine_model.proofs.FilmPixels.{IsApart-in_span}

-- an integer of one span is in another from the same start that is long enough
in_span-nearer : (from : ℤ) (len w : ℕ) (p : ℤ) → in_span from len p ≡ true → unsigned_abs (p -ℤ from) < w → in_span from w p ≡ true
in_span-nearer from len w p there near =
    let parts = and_parts (int_le from p) (int_lt p (from +ℤ pos len)) there in
    let apart = IsApart-in_span from len p there in
    let is = apart.is in
    let below : int_lt p (from +ℤ pos w) ≡ true = grind (arith, ints) in
    and_from (int_le from p) (int_lt p (from +ℤ pos w)) parts.0 below

-- a pixel of the VScreen's place is one of its film where its distances from the corner are the film's
lies-film : (place : Rect) (w h : ℕ) (x y : ℤ) → in_rect place x y ≡ true → unsigned_abs (x -ℤ place.x) < w → unsigned_abs (y -ℤ place.y) < h → in_rect (lying_at place w h) x y ≡ true
lies-film place w h x y there across down =
    let parts = and_parts (in_span place.x place.w x) (in_span place.y place.h y) there in
    and_from (in_span place.x w x) (in_span place.y h y) (in_span-nearer place.x place.w w x parts.0 across) (in_span-nearer place.y place.h h y parts.1 down)

-- a pixel of the film outside the band that was drawn shows what it showed
pixel-beaten : (film : FilmState) (place : Rect) (x y : ℤ) → IsFilm film → 0 < film.period → in_rect (lying_at place film.width film.height) x y ≡ true → pixel_number film.width (unsigned_abs (x -ℤ place.x)) (unsigned_abs (y -ℤ place.y)) < pixels_in film → bands.in_band (lying_at place film.width film.height) (band_drawn (beaten film)) x y ≡ false
    → pixel_of (beaten film).shown (pixel_number film.width (unsigned_abs (x -ℤ place.x)) (unsigned_abs (y -ℤ place.y))) ≡ pixel_of film.shown (pixel_number film.width (unsigned_abs (x -ℤ place.x)) (unsigned_abs (y -ℤ place.y)))
unfolding bands.in_band
pixel-beaten film place x y is some lies low out =
    let number = pixel_number film.width (unsigned_abs (x -ℤ place.x)) (unsigned_abs (y -ℤ place.y)) in
    let drawn : has_pixel (band_drawn (beaten film)) number ≡ false = sym (ap (λ (b : Bool). b && has_pixel (band_drawn (beaten film)) number) lies) ∙ out in
    let now : has_pixel (band_now film) number ≡ false = sym (ap (λ (band : Band). has_pixel band number) (band_was_drawn film is some)) ∙ drawn in
    only_the_band film number is low ∙ cond-false (has_pixel (band_now film) number) (pixel_of (frame_now film) number) (pixel_of film.shown number) now

-- the picture of a beat has as many pixels
shown_size-beaten : (film : FilmState) → IsFilm film → 0 < film.period → length (beaten film).shown ≡ film.width * film.height
shown_size-beaten film is some = let keeps = beaten_keeps film in (IsFilm-beaten film is some).shown_size ∙ ap₂ (λ (w h : ℕ). w * h) keeps.width keeps.height

abbrev pub film_look : FilmState → Seen
film_look film = seen.film film.width film.height film.shown

-- so its colours are kept
film_colour-beaten : (film : FilmState) (place : Rect) (x y : ℤ) → IsFilm film → 0 < film.period → in_rect place x y ≡ true → bands.in_band (lying_at place film.width film.height) (band_drawn (beaten film)) x y ≡ false
    → colour_in (film_look film) place x y ≡ colour_in (seen.film film.width film.height (beaten film).shown) place x y
unfolding colour_in colour_of colour_in_row in_row film_colour
film_colour-beaten film place x y is some there out = by (nat_lt u film.width) refl (nat_lt v film.height) refl
  where
    u : ℕ
    u = unsigned_abs (x -ℤ place.x)

    v : ℕ
    v = unsigned_abs (y -ℤ place.y)

    new : List ℕ
    new = (beaten film).shown

    inside : nat_lt u film.width ≡ true → nat_lt v film.height ≡ true → get_or (row_of film.width film.shown v) u 0 ≡ get_or (row_of film.width new v) u 0
    inside across down =
        let near_u = ltb-true u film.width across in
        let near_v = ltb-true v film.height down in
        let old_row = rows_hold_pixels film.width film.height u v film.shown near_u near_v is.shown_size in
        let new_row = rows_hold_pixels film.width film.height u v new near_u near_v (shown_size-beaten film is some) in
        old_row.0 ∙ sym (pixel-beaten film place x y is some (lies-film place film.width film.height x y there near_u near_v) old_row.1 out) ∙ sym new_row.0

    by : (b : Bool) → nat_lt u film.width ≡ b → (c : Bool) → nat_lt v film.height ≡ c → cond (b && c) (get_or (row_of film.width film.shown v) u 0) FILM_GROUND ≡ cond (b && c) (get_or (row_of film.width new v) u 0) FILM_GROUND
    by true across true down = inside across down
    by true across false down = refl
    by false across c down = refl

-- what a VScreen with this film shows
abbrev pub screen_look : Option FilmState → Seen
screen_look film = option_map_or film_look film seen.no_film

-- whether the pixel is in the band that was drawn of the film
abbrev is_drawn_at : Rect → ℤ → ℤ → Option FilmState → Bool
is_drawn_at place x y film =
    option_map_or (λ (f : FilmState). nat_lt 0 f.period && bands.in_band (lying_at place f.width f.height) (band_drawn f) x y) film false

screen_colour-beaten : (film : Option FilmState) (place : Rect) (x y : ℤ) → IfSome film (λ (f : FilmState). IsFilm f) → in_rect place x y ≡ true → is_drawn_at place x y (option_map film_beaten film) ≡ false
    → colour_in (screen_look film) place x y ≡ colour_in (screen_look (option_map film_beaten film)) place x y
unfolding beaten
screen_colour-beaten None place x y is there out = refl
screen_colour-beaten (Some film) place x y is there out = by (nat_lt 0 film.period) refl out
  where
    by : (b : Bool) → nat_lt 0 film.period ≡ b → is_drawn_at place x y (Some (cond b (beaten film) film)) ≡ false → colour_in (film_look film) place x y ≡ colour_in (film_look (cond b (beaten film) film)) place x y
    by true some h =
        let drawn : bands.in_band (lying_at place film.width film.height) (band_drawn (beaten film)) x y ≡ false = sym (ap (λ (b : Bool). b && bands.in_band (lying_at place film.width film.height) (band_drawn (beaten film)) x y) some) ∙ h in
        film_colour-beaten film place x y is (ltb-true 0 film.period some) there drawn
    by false none h = refl

-- a row of any kind
row_colour-beaten : (scene : Scene) (row : Row) (place : Rect) (x y : ℤ) → IfSome row.film (λ (f : FilmState). IsFilm f) → in_rect place x y ≡ true → is_drawn_at place x y (option_map film_beaten row.film) ≡ false → (kind : Kind)
    → colour_in (look_by kind scene row) place x y ≡ colour_in (look_by kind (scene_changed row_beaten scene) (with_film_changed film_beaten row)) place x y
unfolding linked_value
row_colour-beaten scene row place x y is there out Window = refl
row_colour-beaten scene row place x y is there out Grid = refl
row_colour-beaten scene row place x y is there out Frame = refl
row_colour-beaten scene row place x y is there out Button = refl
row_colour-beaten scene row place x y is there out Label =
    ap (λ (value : Option ℤ). colour_in (seen.label (label_text (text_of Text row) value)) place x y) (sym (linked_value-beaten scene.rows row))
row_colour-beaten scene row place x y is there out Entry = refl
row_colour-beaten scene row place x y is there out Scale =
    ap (λ (value : Option ℤ). colour_in (seen.scale (unsigned_abs (scale_value (raw_value value (number_of Value row)) (number_of Max row))) (count_of Max row) (is_vertical row) (is_held scene row)) place x y) (sym (linked_value-beaten scene.rows row))
row_colour-beaten scene row place x y is there out Scrollbar =
    ap (λ (value : Option ℤ). colour_in (seen.scrollbar (unsigned_abs (scrollbar_value (raw_value value (number_of Value row)) (number_of Real row) (number_of View row))) (count_of Real row) (count_of View row) (is_vertical row) (is_held scene row)) place x y) (sym (linked_value-beaten scene.rows row))
row_colour-beaten scene row place x y is there out Variable = refl
row_colour-beaten scene row place x y is there out VScreen = screen_colour-beaten row.film place x y is there out

-- the film of a row that is there is whole
pub fit_film : (rows : List Row) (i : ℕ) (row : Row) → HaveFitFilms rows → slice_get rows i ≡ Some row → IsFitFilm row
fit_film [] i row films there = absurd (cc)
fit_film (first ∷ rows) zero row films there = let same : first ≡ row = cc in subst (λ (r : Row). IsFitFilm r) same (All-head IsFitFilm first rows films)
fit_film (first ∷ rows) (suc i) row films there = fit_film rows i row (All-tail IsFitFilm first rows films) there

pub whole_film : (rows : List Row) (i : ℕ) (row : Row) → HaveFitFilms rows → slice_get rows i ≡ Some row → IfSome row.film (λ (f : FilmState). IsFilm f)
whole_film rows i row films there = by row.film (fit_film rows i row films there)
  where
    by : (o : Option FilmState) → IfSome o (λ (f : FilmState). (row.kind ≡ VScreen) × IsFilm f) → IfSome o (λ (f : FilmState). IsFilm f)
    by None fit = tt
    by (Some film) fit = fit.1

-- the widget on top
key_colour-beaten : (d : Desk) (key : ℕ × List ℕ) (x y : ℤ) → IsDesk d → top_of (scene_of d) x y ≡ Some key → is_drawn_at (place_of (scene_of d) key) x y (option_map film_beaten (film_named d.rows key.0 key.1)) ≡ false
    → colour_in (look_at (scene_of d) key) (place_of (scene_of d) key) x y ≡ colour_in (look_at (scene_changed row_beaten (scene_of d)) key) (place_of (scene_of d) key) x y
unfolding look_at look_of
key_colour-beaten d key x y is top out =
    by (keys.row_of d.rows key) refl out ∙ ap (λ (o : Option Row). colour_in (option_map_or (look_of after) o seen.no_film) place x y) (sym (row_of-still row_beaten d.rows (MovesNothing-beaten d.rows) key))
  where
    scene : Scene
    scene = scene_of d

    after : Scene
    after = scene_changed row_beaten (scene_of d)

    place : Rect
    place = place_of (scene_of d) key

    there : in_rect (place_of (scene_of d) key) x y ≡ true
    there = shown_lies_in_place (scene_of d) key x y (top_is_on_top (scene_of d) key x y is.rows.planted is.rows.names top).1.shown

    by : (o : Option Row) → keys.row_of d.rows key ≡ o → is_drawn_at place x y (option_map film_beaten (option_and_then (λ (row : Row). row.film) o)) ≡ false
        → colour_in (option_map_or (look_of scene) o seen.no_film) place x y ≡ colour_in (option_map_or (look_of after) (option_map row_beaten o) seen.no_film) place x y
    by None found h = refl
    by (Some row) found h =
        let at = find-element (has_name key.0 key.1) d.rows row found in
        row_colour-beaten scene row place x y (whole_film d.rows at.0 row is.rows.films at.1) there h row.kind
        ∙ ap (λ (r : Row). colour_in (look_by r.kind after r) place x y) (sym (row_beaten-is row))

-- A beat changes colours only in the bands that it draws.
pub colour_outside_bands : (d : Desk) → IsDesk d → (x y : ℕ) → in_band (beat d) x y ≡ false → colour d x y ≡ colour (beat d) x y
unfolding colour colour_at in_band beat
colour_outside_bands d is x y out =
    by (top_of scene (pos x) (pos y)) refl
    ∙ ap (λ (o : Option (ℕ × List ℕ)). option_map_or (λ (key : ℕ × List ℕ). colour_in (look_at after key) (place_of after key) (pos x) (pos y)) o 2) (sym (top_of-still row_beaten scene (MovesNothing-beaten d.rows) (pos x) (pos y)))
  where
    scene : Scene
    scene = scene_of d

    after : Scene
    after = scene_changed row_beaten (scene_of d)

    unbanded : (key : ℕ × List ℕ) → top_of scene (pos x) (pos y) ≡ Some key → is_drawn_at (place_of scene key) (pos x) (pos y) (option_map film_beaten (film_named d.rows key.0 key.1)) ≡ false
    unbanded key top =
        let there : top_of after (pos x) (pos y) ≡ Some key = top_of-still row_beaten scene (MovesNothing-beaten d.rows) (pos x) (pos y) ∙ top in
        let own : in_band_of (beat d) key (pos x) (pos y) ≡ false = sym (ap (λ (o : Option (ℕ × List ℕ)). option_map_or (λ (k : ℕ × List ℕ). in_band_of (beat d) k (pos x) (pos y)) o false) there) ∙ out in
        ap₂ (λ (place : Rect) (film : Option FilmState). is_drawn_at place (pos x) (pos y) film) (sym (place_of-still row_beaten scene (MovesNothing-beaten d.rows) key)) (sym (film_named-beaten d.rows key.0 key.1)) ∙ own

    by : (o : Option (ℕ × List ℕ)) → top_of scene (pos x) (pos y) ≡ o → option_map_or (λ (key : ℕ × List ℕ). colour_in (look_at scene key) (place_of scene key) (pos x) (pos y)) o 2 ≡ option_map_or (λ (key : ℕ × List ℕ). colour_in (look_at after key) (place_of after key) (pos x) (pos y)) o 2
    by None top = refl
    by (Some key) top =
        key_colour-beaten d key (pos x) (pos y) is top (unbanded key top)
        ∙ ap (λ (place : Rect). colour_in (look_at after key) place (pos x) (pos y)) (sym (place_of-still row_beaten scene (MovesNothing-beaten d.rows) key))

-- Each change keeps what holds of every film.
use Rattle.std.proofs.Common.{◌≡◌, ℕ, ◌<◌, ◌≤◌, List, length, arith}
use Rattle.std.proofs.lemmas.Bool.Decides.{nat_tests}
use Rattle.std.proofs.lemmas.List.{length-replicate}
use Rattle.vscreen_core.proofs.Bands.{band_order, band_within}
use Rattle.vscreen_core.proofs.Pictures.{length-with_pixels}
use Rattle.vscreen_core.specs.Picture.{with_pixels}
use Rattle.vscreen_core.specs.FilmState.{FilmState, IsFilm, blank_film, pixels_in}
use Rattle.vscreen_core.specs.Changes.{beaten, committed, begun, settled, band_now, frame_now}

-- the pixels of a band fit in a picture of the film's size
pub band_fits : (film : FilmState) → ((band_now film).from ≤ (band_now film).to) × ((band_now film).to ≤ pixels_in film)
unfolding band_now
band_fits film = (band_order (pixels_in film) film.period film.phase, band_within (pixels_in film) film.period film.phase)

pub IsFilm-committed : (film : FilmState) (frame : List ℕ) → IsFilm film → IsFilm (committed film frame)
unfolding committed
IsFilm-committed film frame f = grind (arith, nat_tests)

pub length-frame_now : (film : FilmState) → IsFilm film → length (frame_now film) ≡ pixels_in film
unfolding frame_now
length-frame_now film f = grind (arith, nat_tests)

pub IsFilm-begun : (film : FilmState) (period : ℕ) → IsFilm film → 0 < period → period ≤ 64 → IsFilm (begun film period)
unfolding begun
IsFilm-begun film period f some within = grind arith

pub IsFilm-settled : (film : FilmState) → IsFilm film → IsFilm (settled film)
unfolding settled
IsFilm-settled film f = grind arith

pub IsFilm-blank_film : (width height : ℕ) → 1 ≤ width → width ≤ 256 → 1 ≤ height → height ≤ 256 → IsFilm (blank_film width height)
unfolding blank_film
IsFilm-blank_film width height a b c d = grind (arith, length-replicate)

-- a beat leaves as many pixels shown
length-drawn : (film : FilmState) → IsFilm film → length (with_pixels film.shown (frame_now film) (band_now film).from (band_now film).to) ≡ pixels_in film
length-drawn film f =
    let fits = band_fits film in
    omega (arith, f.shown_size, length-with_pixels film.shown (frame_now film) (band_now film).from (band_now film).to fits.0 (omega (arith, f.shown_size, fits.1)) (omega (arith, length-frame_now film f, fits.1)))

pub IsFilm-beaten : (film : FilmState) → IsFilm film → 0 < film.period → IsFilm (beaten film)
unfolding beaten
IsFilm-beaten film f some = record {
  some_width = f.some_width;
  width_limit = f.width_limit;
  some_height = f.some_height;
  height_limit = f.height_limit;
  newest_size = f.newest_size;
  current_size = length-frame_now film f;
  shown_size = length-drawn film f;
  period_limit = f.period_limit;
  phase_within = λ _. omega arith;
}

-- A film: its size, three pictures of that size, and where it stands in its period.
use Rattle.std.specs.Prelude.{◌≡◌, ℕ, ◌*◌, ◌<◌, ◌≤◌, List, length, replicate}

pub record FilmState : Type 0 where
  pub width : ℕ
  pub height : ℕ
  pub newest : List ℕ
  pub current : List ℕ
  pub shown : List ℕ
  pub period : ℕ
  pub phase : ℕ

-- the number of a film's pixels: each of its pictures has so many bytes
abbrev pub pixels_in : FilmState → ℕ
pixels_in film = film.width * film.height

-- what holds of every film; a period of 0 means that the film isn't admitted
pub record IsFilm (film : FilmState) : Type 0 where
  pub some_width : 1 ≤ film.width
  pub width_limit : film.width ≤ 256
  pub some_height : 1 ≤ film.height
  pub height_limit : film.height ≤ 256
  pub newest_size : length film.newest ≡ pixels_in film
  pub current_size : length film.current ≡ pixels_in film
  pub shown_size : length film.shown ≡ pixels_in film
  pub period_limit : film.period ≤ 64
  pub phase_within : 0 < film.period → film.phase < film.period

-- a new film: every byte is 0, and it isn't admitted
unfoldable pub blank_film : ℕ → ℕ → FilmState
blank_film width height = record {
  width = width;
  height = height;
  newest = replicate (width * height) 0;
  current = replicate (width * height) 0;
  shown = replicate (width * height) 0;
  period = 0;
  phase = 0;
}

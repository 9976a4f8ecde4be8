-- What happens to an admitted film from tick to tick: frames are committed, and beats come.
use Rattle.std.specs.Prelude.{◌≡◌, ℕ, ◌+◌, ◌%◌, List, [], ◌∷◌, take}
use Rattle.vscreen_core.specs.declared.band.Band.{Band}
use Rattle.vscreen_core.specs.Band.{band_start}
use Rattle.vscreen_core.specs.FilmState.{FilmState, pixels_in}
use Rattle.vscreen_core.specs.Changes.{committed, beaten, band_now}

pub data FilmStep : Type 0 where
  Commit : List ℕ → FilmStep
  Beat : FilmStep

-- the film after some steps
abbrev pub after : FilmState → List FilmStep → FilmState
after film [] = film
after film (Commit frame ∷ steps) = after (committed film frame) steps
after film (Beat ∷ steps) = after (beaten film) steps

-- how many of the steps are beats
abbrev pub beats_in : List FilmStep → ℕ
beats_in [] = 0
beats_in (Commit frame ∷ steps) = beats_in steps
beats_in (Beat ∷ steps) = beats_in steps + 1

-- the bands that the beats draw, in order
abbrev pub bands_in : FilmState → List FilmStep → List Band
bands_in film [] = []
bands_in film (Commit frame ∷ steps) = bands_in (committed film frame) steps
bands_in film (Beat ∷ steps) = band_now film ∷ bands_in (beaten film) steps

-- the film is k beats into a period whose frame is this one: the pixels of its first k bands show that frame
pub record IsDrawn (frame : List ℕ) (k : ℕ) (film : FilmState) : Type 0 where
  pub current : film.current ≡ frame
  pub phase : film.phase ≡ k % film.period
  pub drawn : let pixels = band_start (pixels_in film) film.period k in take pixels film.shown ≡ take pixels frame

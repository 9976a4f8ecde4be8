-- What each call makes of a film. A frame goes to `newest`; the first beat of a period takes it to `current`;
-- each beat takes its band from there to `shown`.
use Rattle.std.specs.Prelude.{ℕ, ◌+◌, ◌-◌, ◌%◌, List, length, ◌==◌, if◌then◌else◌, Result, Ok, Err}
use Rattle.vscreen_core.specs.declared.band.Band.{Band}
use Rattle.vscreen_core.specs.declared.wrong_size.WrongSize.{WrongSize}
use Rattle.vscreen_core.specs.Band.{band_at}
use Rattle.vscreen_core.specs.FilmState.{FilmState, pixels_in}
use Rattle.vscreen_core.specs.Picture.{with_pixels}

-- a frame is taken exactly where it has a byte for each pixel
unfoldable pub committed : FilmState → List ℕ → FilmState
committed film frame = if length frame == pixels_in film then record film { newest = frame } else film

unfoldable pub commit_answer : FilmState → List ℕ → Result (Unit {0}) WrongSize
commit_answer film frame =
    if length frame == pixels_in film then Ok tt else Err (record { want = pixels_in film; got = length frame })

-- an admission begins at phase 0
unfoldable pub begun : FilmState → ℕ → FilmState
begun film period = record film { period = period; phase = 0 }

-- the frame that a beat draws from
unfoldable pub frame_now : FilmState → List ℕ
frame_now film = if film.phase == 0 then film.newest else film.current

-- the band that a beat draws
unfoldable pub band_now : FilmState → Band
band_now film = band_at (pixels_in film) film.period film.phase

-- a beat: the band's pixels are taken from the frame, and the phase goes on, round the period
unfoldable pub beaten : FilmState → FilmState
beaten film =
    let frame = frame_now film in
    let band = band_now film in
    record film {
      current = frame;
      shown = with_pixels film.shown frame band.from band.to;
      phase = (film.phase + 1) % film.period;
    }

-- the phase before this one, round the period
abbrev pub phase_before : FilmState → ℕ
phase_before film = if film.phase == 0 then film.period - 1 else film.phase - 1

-- the band that the last beat of an admitted film drew
unfoldable pub band_drawn : FilmState → Band
band_drawn film = band_at (pixels_in film) film.period (phase_before film)

-- an admission ends: the newest frame is shown at once
unfoldable pub settled : FilmState → FilmState
settled film = record film { shown = film.newest; period = 0 }

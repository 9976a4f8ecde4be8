-- What films promise over a period, whatever frames are committed between its beats. The film is one that
-- stands at phase 0, before the period's first beat. Pixels go by their numbers.
use Rattle.std.specs.Prelude.{◌≡◌, ℕ, ◌+◌, ◌*◌, ◌<◌, ◌≤◌, List, ◌∷◌, length, get_or, if◌then◌else◌, count_by}
use Rattle.vscreen_core.specs.Band.{has_pixel, share_of, band_at}
use Rattle.vscreen_core.specs.Changes.{beaten, band_now, frame_now, committed, band_drawn}
use Rattle.vscreen_core.specs.FilmState.{FilmState, IsFilm, pixels_in}
use Rattle.vscreen_core.specs.Period.{FilmStep, after, bands_in, beats_in}
use Rattle.vscreen_core.specs.Period.FilmStep.{Beat}
use Rattle.vscreen_core.specs.Picture.{pixel_number, pixel_of, row_of}

pub record StartsPeriod (film : FilmState) : Type 0 where
  pub valid : IsFilm film
  pub admitted : 0 < film.period
  pub start : film.phase ≡ 0

-- how many of the beats draw this pixel
abbrev pub times_drawn : FilmState → List FilmStep → ℕ → ℕ
times_drawn film steps pixel = count_by (λ band. has_pixel band pixel) (bands_in film steps)

-- in the beats of a period each pixel of the film is in the band of exactly one
abbrev pub EachPixelOnce : Type 0
EachPixelOnce =
    (film : FilmState) (steps : List FilmStep) (pixel : ℕ) → StartsPeriod film → beats_in steps ≡ film.period → pixel < pixels_in film →
    times_drawn film steps pixel ≡ 1

-- from the beat on that draws it a pixel shows the frame that was newest when the period's first beat began
abbrev pub PixelsOfOneFrame : Type 0
PixelsOfOneFrame =
    (film : FilmState) (steps : List FilmStep) (pixel : ℕ) → StartsPeriod film → beats_in (Beat ∷ steps) ≤ film.period → pixel < pixels_in film →
    0 < times_drawn film (Beat ∷ steps) pixel →
    pixel_of (after film (Beat ∷ steps)).shown pixel ≡ pixel_of film.newest pixel

-- after the period's last beat that whole frame is shown, and it is the current one
abbrev pub WholeFrameShown : Type 0
WholeFrameShown =
    (film : FilmState) (steps : List FilmStep) → StartsPeriod film → beats_in (Beat ∷ steps) ≡ film.period →
    ((after film (Beat ∷ steps)).shown ≡ film.newest) × ((after film (Beat ∷ steps)).current ≡ film.newest)

-- a beat shows the pixels of its band from the frame, and no other pixel changes
abbrev pub OnlyTheBand : Type 0
OnlyTheBand =
    (film : FilmState) (pixel : ℕ) → IsFilm film → pixel < pixels_in film →
    pixel_of (beaten film).shown pixel
    ≡ (if has_pixel (band_now film) pixel then pixel_of (frame_now film) pixel else pixel_of film.shown pixel)

-- after a beat the band that it drew is the one that the last beat drew
abbrev pub BandWasDrawn : Type 0
BandWasDrawn = (film : FilmState) → IsFilm film → 0 < film.period → band_drawn (beaten film) ≡ band_now film

-- a band has no more pixels than the film's share
abbrev pub BandWithinShare : Type 0
BandWithinShare =
    (film : FilmState) → (band_now film).to ≤ (band_now film).from + share_of film.width film.height film.period

-- a band that would begin past the film's last pixel is empty: it begins and ends at the number of its pixels
abbrev pub PastTheLastPixel : Type 0
PastTheLastPixel =
    (width height period phase : ℕ) → width * height ≤ phase * share_of width height period →
    ((band_at (width * height) period phase).from ≡ width * height) × ((band_at (width * height) period phase).to ≡ width * height)

-- a frame that is committed changes neither what is shown nor the frame of the period under way
abbrev pub CommitWaits : Type 0
CommitWaits =
    (film : FilmState) (frame : List ℕ) →
    ((committed film frame).shown ≡ film.shown) × ((committed film frame).current ≡ film.current) × ((committed film frame).period ≡ film.period) × ((committed film frame).phase ≡ film.phase)

-- pixel u of row v is the one of its number, which is below the number of pixels
abbrev pub RowsHoldPixels : Type 0
RowsHoldPixels =
    (width height u v : ℕ) (picture : List ℕ) → u < width → v < height → length picture ≡ width * height →
    (get_or (row_of width picture v) u 0 ≡ pixel_of picture (pixel_number width u v)) × (pixel_number width u v < width * height)

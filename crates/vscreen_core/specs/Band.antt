-- Bands. The pixels of a film are numbered row by row from 0. A period of p ticks cuts them into p bands, one for
-- each phase from 0: each is a run of as many pixels as the film's over p, rounded up, as far as the pixels last.
-- So the last bands may be shorter, or empty: then they begin and end at the number of the film's pixels.
use Rattle.std.specs.Prelude.{ℕ, ◌+◌, ◌*◌, min, Bool, ◌&&◌, nat_le, nat_lt}
use Rattle.std.specs.Int.{div_ceil}
use Rattle.vscreen_core.specs.declared.band.Band.{Band}

-- the pixels of a whole band, of a film of so many pixels
unfoldable pub band_size : ℕ → ℕ → ℕ
band_size pixels period = div_ceil pixels period

-- the share of a film of this width and height: the pixels of a whole band
unfoldable pub share_of : ℕ → ℕ → ℕ → ℕ
share_of width height period = band_size (width * height) period

-- the first pixel that the bands before this phase don't have
unfoldable pub band_start : ℕ → ℕ → ℕ → ℕ
band_start pixels period phase = min pixels (phase * band_size pixels period)

-- the band of a phase: it ends where the next one starts
unfoldable pub band_at : ℕ → ℕ → ℕ → Band
band_at pixels period phase =
    record { from = band_start pixels period phase; to = band_start pixels period (phase + 1) }

-- whether the pixel of this number is in a band
unfoldable pub has_pixel : Band → ℕ → Bool
has_pixel band number = nat_le band.from number && nat_lt number band.to

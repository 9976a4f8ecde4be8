-- What the laws need of a beat: it keeps the shape and the desk's invariant, and its bands leave the spare of the budget
-- free.
use Rattle.std.proofs.Common.{◌≡◌, ℕ, ◌+◌, ◌-◌, ◌≤◌, false, refl, arith}
use Rattle.desk_model.specs.Desk.{Desk}
use Rattle.desk_model.specs.DeskFacts.{IsDesk}
use Rattle.desk_model.specs.Seen.{colour}
use Rattle.desk_model.specs.Beat.{beat, in_band, band_count}
use Rattle.desk_model.proofs.KeptBeat.{beats_keep}
use Rattle.machine_model.proofs.BandCount.{band_count-limit}
use Rattle.machine_model.proofs.BeatColours.{colour_outside_bands}

pub shape-beat : (d : Desk) → (beat d).shape ≡ d.shape
unfolding beat
shape-beat d = refl

-- a beat opens and closes no window
pub windows-beat : (d : Desk) → (beat d).windows ≡ d.windows
unfolding beat
windows-beat d = refl

pub IsDesk-beat : (d : Desk) → IsDesk d → IsDesk (beat d)
IsDesk-beat d is = beats_keep d is

pub colour-beat : (d : Desk) → IsDesk d → (x y : ℕ) → in_band (beat d) x y ≡ false → colour d x y ≡ colour (beat d) x y
colour-beat d is x y out = colour_outside_bands d is x y out

pub bands_fit : (d : Desk) → IsDesk d → band_count (beat d) + d.shape.spare ≤ d.shape.budget
bands_fit d is = omega (arith, is.shape.spare_most, band_count-limit d is)

-- what the bands leave of the budget is at least the spare
pub spare_is_left : (d : Desk) → IsDesk d → d.shape.spare ≤ d.shape.budget - band_count (beat d)
spare_is_left d is = omega (arith, bands_fit d is)

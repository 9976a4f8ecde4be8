use Rattle.vscreen_core.proofs.Periods.{band_was_drawn}
use Rattle.vscreen_core.proofs.laws.band_was_drawn.Goals as goal

pub returns : goal.returns
returns c = band_was_drawn

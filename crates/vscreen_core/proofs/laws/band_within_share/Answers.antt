use Rattle.vscreen_core.proofs.Periods.{band_within_share}
use Rattle.vscreen_core.proofs.laws.band_within_share.Goals as goal

pub returns : goal.returns
returns c = band_within_share

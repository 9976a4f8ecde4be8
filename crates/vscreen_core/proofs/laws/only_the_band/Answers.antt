use Rattle.vscreen_core.proofs.Periods.{only_the_band}
use Rattle.vscreen_core.proofs.laws.only_the_band.Goals as goal

pub returns : goal.returns
returns c = only_the_band

use Rattle.vscreen_core.proofs.Periods.{pixels_of_one_frame}
use Rattle.vscreen_core.proofs.laws.pixels_of_one_frame.Goals as goal

pub returns : goal.returns
returns c = pixels_of_one_frame

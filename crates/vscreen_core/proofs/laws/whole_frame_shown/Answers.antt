use Rattle.vscreen_core.proofs.Periods.{whole_frame_shown}
use Rattle.vscreen_core.proofs.laws.whole_frame_shown.Goals as goal

pub returns : goal.returns
returns c = whole_frame_shown

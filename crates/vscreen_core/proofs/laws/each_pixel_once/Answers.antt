use Rattle.vscreen_core.proofs.Periods.{each_pixel_once}
use Rattle.vscreen_core.proofs.laws.each_pixel_once.Goals as goal

pub returns : goal.returns
returns c = each_pixel_once

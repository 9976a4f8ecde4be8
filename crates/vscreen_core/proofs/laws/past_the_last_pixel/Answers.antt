use Rattle.vscreen_core.proofs.Bands.{past_the_last_pixel}
use Rattle.vscreen_core.proofs.laws.past_the_last_pixel.Goals as goal

pub returns : goal.returns
returns c = past_the_last_pixel

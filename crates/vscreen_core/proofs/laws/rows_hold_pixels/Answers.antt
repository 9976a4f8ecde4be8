use Rattle.vscreen_core.proofs.Pictures.{rows_hold_pixels}
use Rattle.vscreen_core.proofs.laws.rows_hold_pixels.Goals as goal

pub returns : goal.returns
returns c = rows_hold_pixels

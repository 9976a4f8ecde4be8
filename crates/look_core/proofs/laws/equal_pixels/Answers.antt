use Rattle.look_core.proofs.SameLemmas.{equal_pixels}
use Rattle.look_core.proofs.laws.equal_pixels.Goals as goal

pub returns : goal.returns
returns c = equal_pixels

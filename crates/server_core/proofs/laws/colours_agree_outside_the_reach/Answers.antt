use Rattle.machine_model.proofs.Reach.{colour-outside_reach}
use Rattle.server_core.proofs.laws.colours_agree_outside_the_reach.Goals as goal

pub returns : goal.returns
returns c = colour-outside_reach

use Rattle.scene_core.proofs.AskedSteps.{asked-none}
use Rattle.scene_core.proofs.asked.none_asked.Goals as goal

pub returns : goal.returns
returns c = asked-none

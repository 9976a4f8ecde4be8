use Rattle.touch_rules.proofs.StepLooks.{steps_tell_looks}
use Rattle.touch_rules.proofs.laws.steps_tell_looks.Goals as goal

pub returns : goal.returns
returns c = steps_tell_looks

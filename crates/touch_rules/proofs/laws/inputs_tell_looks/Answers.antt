use Rattle.touch_rules.proofs.InputLooks.{inputs_tell_looks}
use Rattle.touch_rules.proofs.laws.inputs_tell_looks.Goals as goal

pub returns : goal.returns
returns c = inputs_tell_looks

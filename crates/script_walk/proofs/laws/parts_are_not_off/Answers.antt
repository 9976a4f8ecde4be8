use Rattle.script_walk.proofs.Refusals.{parts_are_not_off}
use Rattle.script_walk.proofs.laws.parts_are_not_off.Goals as goal

pub returns : goal.returns
returns c = parts_are_not_off

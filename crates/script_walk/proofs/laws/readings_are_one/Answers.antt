use Rattle.script_walk.proofs.Refusals.{readings_are_one}
use Rattle.script_walk.proofs.laws.readings_are_one.Goals as goal

pub returns : goal.returns
returns c = readings_are_one

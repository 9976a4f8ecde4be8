use Rattle.script_walk.proofs.Refusals.{scripts_are_not_refused}
use Rattle.script_walk.proofs.laws.scripts_are_not_refused.Goals as goal

pub returns : goal.returns
returns c = scripts_are_not_refused

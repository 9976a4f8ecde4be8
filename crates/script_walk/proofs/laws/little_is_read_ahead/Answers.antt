use Rattle.script_walk.proofs.Refusals.{little_is_read_ahead}
use Rattle.script_walk.proofs.laws.little_is_read_ahead.Goals as goal

pub returns : goal.returns
returns c = little_is_read_ahead

use Rattle.script_walk.proofs.Refusals.{bytes_have_a_reading}
use Rattle.script_walk.proofs.laws.bytes_have_a_reading.Goals as goal

pub returns : goal.returns
returns c = bytes_have_a_reading

use Rattle.cmd_text.proofs.Places.{one_place}
use Rattle.cmd_text.proofs.laws.one_place.Goals as goal

pub returns : goal.returns
returns c = one_place

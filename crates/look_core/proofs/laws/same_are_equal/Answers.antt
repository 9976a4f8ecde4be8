use Rattle.look_core.proofs.SameLemmas.{same_are_equal}
use Rattle.look_core.proofs.laws.same_are_equal.Goals as goal

pub returns : goal.returns
returns c = same_are_equal

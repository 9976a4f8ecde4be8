use Rattle.desk_model.proofs.OwnPart.{byes_depend_on_own_part}
use Rattle.desk_core.proofs.laws.byes_depend_on_the_own_part.Goals as goal

pub returns : goal.returns
returns c = byes_depend_on_own_part

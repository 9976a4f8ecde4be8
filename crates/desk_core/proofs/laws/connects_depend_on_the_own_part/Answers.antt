use Rattle.desk_model.proofs.OwnPart.{connects_depend_on_own_part}
use Rattle.desk_core.proofs.laws.connects_depend_on_the_own_part.Goals as goal

pub returns : goal.returns
returns c = connects_depend_on_own_part

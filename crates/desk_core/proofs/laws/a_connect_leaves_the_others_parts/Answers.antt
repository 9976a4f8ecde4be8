use Rattle.desk_model.proofs.OwnPart.{connects_leave_others}
use Rattle.desk_core.proofs.laws.a_connect_leaves_the_others_parts.Goals as goal

pub returns : goal.returns
returns c = connects_leave_others

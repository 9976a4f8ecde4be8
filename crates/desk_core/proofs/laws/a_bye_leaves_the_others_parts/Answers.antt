use Rattle.desk_model.proofs.OwnPart.{byes_leave_others}
use Rattle.desk_core.proofs.laws.a_bye_leaves_the_others_parts.Goals as goal

pub returns : goal.returns
returns c = byes_leave_others

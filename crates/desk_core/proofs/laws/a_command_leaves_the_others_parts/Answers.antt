use Rattle.desk_model.proofs.OwnPart.{commands_leave_others}
use Rattle.desk_core.proofs.laws.a_command_leaves_the_others_parts.Goals as goal

pub returns : goal.returns
returns c = commands_leave_others

use Rattle.desk_model.proofs.OwnPart.{hellos_leave_others}
use Rattle.desk_core.proofs.laws.a_hello_leaves_the_others_parts.Goals as goal

pub returns : goal.returns
returns c = hellos_leave_others

use Rattle.desk_model.proofs.InPlace.{commands_leave_hung}
use Rattle.desk_core.proofs.laws.commands_leave_hung.Goals as goal

pub returns : goal.returns
returns c = commands_leave_hung

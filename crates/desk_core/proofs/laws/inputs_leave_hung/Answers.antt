use Rattle.desk_model.proofs.InPlace.{inputs_leave_hung}
use Rattle.desk_core.proofs.laws.inputs_leave_hung.Goals as goal

pub returns : goal.returns
returns c = inputs_leave_hung

use Rattle.desk_model.proofs.KeptInputs.{inputs_keep}
use Rattle.desk_core.proofs.laws.inputs_keep_desks.Goals as goal

pub returns : goal.returns
returns c = inputs_keep

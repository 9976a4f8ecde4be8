use Rattle.desk_model.proofs.Scopes.{inputs_keep_to_their_scope}
use Rattle.desk_core.proofs.laws.inputs_keep_to_their_scope.Goals as goal

pub returns : goal.returns
returns c = inputs_keep_to_their_scope

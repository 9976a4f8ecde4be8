use Rattle.desk_model.proofs.Scopes.{commands_keep_to_their_scope}
use Rattle.desk_core.proofs.laws.commands_keep_to_their_scope.Goals as goal

pub returns : goal.returns
returns c = commands_keep_to_their_scope

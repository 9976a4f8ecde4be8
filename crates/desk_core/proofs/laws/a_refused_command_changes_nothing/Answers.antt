use Rattle.desk_model.proofs.Refused.{refused_commands_change_nothing}
use Rattle.desk_core.proofs.laws.a_refused_command_changes_nothing.Goals as goal

pub returns : goal.returns
returns c = refused_commands_change_nothing

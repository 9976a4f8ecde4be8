use Rattle.desk_model.proofs.Desks.{IsDesk-command}
use Rattle.desk_core.proofs.laws.a_command_keeps_what_holds.Goals as goal

pub returns : goal.returns
returns c = IsDesk-command

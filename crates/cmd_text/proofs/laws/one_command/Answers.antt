use Rattle.cmd_text.proofs.Lines.{one_command}
use Rattle.cmd_text.proofs.laws.one_command.Goals as goal

pub returns : goal.returns
returns c = one_command

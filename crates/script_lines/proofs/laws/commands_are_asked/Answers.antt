use Rattle.script_lines.proofs.Telling.{commands_are_asked}
use Rattle.script_lines.proofs.laws.commands_are_asked.Goals as goal

pub returns : goal.returns
returns c = commands_are_asked

use Rattle.script_lines.proofs.Telling.{misread_was_said}
use Rattle.script_lines.proofs.laws.misread_was_said.Goals as goal

pub returns : goal.returns
returns c = misread_was_said

use Rattle.script_lines.proofs.Telling.{asked_was_said}
use Rattle.script_lines.proofs.laws.asked_was_said.Goals as goal

pub returns : goal.returns
returns c = asked_was_said

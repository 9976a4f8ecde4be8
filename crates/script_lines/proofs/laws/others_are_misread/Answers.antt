use Rattle.script_lines.proofs.Telling.{others_are_misread}
use Rattle.script_lines.proofs.laws.others_are_misread.Goals as goal

pub returns : goal.returns
returns c = others_are_misread

use Rattle.script_lines.proofs.Telling.{each_line_is_told}
use Rattle.script_lines.proofs.laws.each_line_is_told.Goals as goal

pub returns : goal.returns
returns c = each_line_is_told

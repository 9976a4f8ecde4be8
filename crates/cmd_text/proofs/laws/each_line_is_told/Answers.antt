use Rattle.cmd_text.proofs.Places.{each_line_is_told}
use Rattle.cmd_text.proofs.laws.each_line_is_told.Goals as goal

pub returns : goal.returns
returns c = each_line_is_told

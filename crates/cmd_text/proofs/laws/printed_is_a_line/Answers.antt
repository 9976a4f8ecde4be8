use Rattle.cmd_text.proofs.PrintedLines.{printed_is_a_line}
use Rattle.cmd_text.proofs.laws.printed_is_a_line.Goals as goal

pub returns : goal.returns
returns c = printed_is_a_line

use Rattle.cmd_text.proofs.FrameFronts.{frame_lines_are_told}
use Rattle.cmd_text.proofs.laws.frame_lines_are_told.Goals as goal

pub returns : goal.returns
returns c = frame_lines_are_told

use Rattle.script_lines.proofs.Telling.{bad_frame_lines_are_off}
use Rattle.script_lines.proofs.laws.bad_frame_lines_are_off.Goals as goal

pub returns : goal.returns
returns c = bad_frame_lines_are_off

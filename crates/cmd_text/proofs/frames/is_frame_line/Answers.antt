-- the reading succeeds exactly on frame lines
use Rattle.std.proofs.Common.{ap, ◌∙◌, is_ok}
use Rattle.cmd_text.proofs.FrameFronts.{frame_told}
use Rattle.cmd_text.proofs.frames.is_frame_line.Goals as goal

pub returns : goal.returns
returns c = record { frame = frame_told c.args.line.now c.is_ok.result (c.is_ok.ensures.value ∙ ap is_ok c.frame_front.ensures) }

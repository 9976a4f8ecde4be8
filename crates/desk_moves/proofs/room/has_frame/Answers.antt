use Rattle.std.proofs.Common.{◌+◌, ◌*◌, ◌/◌, Some, ap, ◌∙◌, arith}
use Rattle.desk_moves.proofs.Frames.{frames-found, frames-none}
use Rattle.desk_moves.proofs.room.has_frame.Goals as goal

pub returns-then-is_frame_of : goal.returns-then-is_frame_of
returns-then-is_frame_of c = frames-found c.args.tree.now c.args.variable.key (c.args.variable.key / 128 * 128 + c.loop-k.k) c.requires.live (c.is_frame_of.ensures.frame ∙ ap Some c.if-is_frame_of.true)

pub returns : goal.returns
returns c = frames-none c.args.tree.now c.args.variable.key c.requires.valid c.requires.live (λ v there k less. c.loop-k.invariant v there k (omega (arith, less, c.loop-k-test.false)))

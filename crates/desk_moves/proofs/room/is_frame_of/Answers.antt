use Rattle.std.proofs.Common.{◌≡◌, Some, None, true, sym, ◌∙◌}
use Rattle.desk_moves.specs.Stays.{is_frame}
use Rattle.desk_moves.proofs.Frames.{frame-read}
use Rattle.desk_moves.proofs.room.is_frame_of.Goals as goal

pub returns-in-Some-clause-frame : goal.returns-in-Some-clause-frame
returns-in-Some-clause-frame c =
    let frame : is_frame c.kind.result ≡ true = sym c.is_frame.ensures ∙ c.if-not-is_frame.false in
    frame-read c.args.tree.now c.args.variable.key c.args.id.key c.kind.result (Some c.in-Some.other.key) c.kind.ensures.valid c.requires.live c.kind.ensures.kind frame c.in-Some.ensures.found

pub returns-in-None-clause-frame : goal.returns-in-None-clause-frame
returns-in-None-clause-frame c =
    let frame : is_frame c.kind.result ≡ true = sym c.is_frame.ensures ∙ c.if-not-is_frame.false in
    frame-read c.args.tree.now c.args.variable.key c.args.id.key c.kind.result None c.kind.ensures.valid c.requires.live c.kind.ensures.kind frame c.in-None.ensures.found

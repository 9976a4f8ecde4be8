use Rattle.std.proofs.Common.{sym, ◌∙◌}
use Rattle.wire_link.proofs.Goings.{went_written, went_unwritten, stopped_written, stopped_unwritten}
use Rattle.wire_link.proofs.sessions.take.Goals as goal

pub returns-in-Ok-flush-clause-told : goal.returns-in-Ok-flush-clause-told
returns-in-Ok-flush-clause-told g c = went_written _ _ c.args.piece.now _ _ c.in-Ok-flush.ensures.empty c.in-Ok.ensures.told c.in-Ok-flush.ensures.ok

pub returns-in-Err-flush-clause-told : goal.returns-in-Err-flush-clause-told
returns-in-Err-flush-clause-told g c = went_unwritten _ _ c.args.piece.now _ _ c.in-Ok.ensures.told c.in-Err-flush.ensures.err

pub returns-in-Ok-flush-2-clause-told : goal.returns-in-Ok-flush-2-clause-told
returns-in-Ok-flush-2-clause-told g c = stopped_written c.in-Err.end _ _ c.args.piece.now _ _ (sym c.is_fault.ensures ∙ c.if-is_fault.false) c.in-Ok-flush-2.ensures.empty c.in-Err.ensures.told c.in-Ok-flush-2.ensures.ok

pub returns-in-Err-flush-2-clause-told : goal.returns-in-Err-flush-2-clause-told
returns-in-Err-flush-2-clause-told g c = stopped_unwritten c.in-Err.end _ _ c.args.piece.now _ _ (sym c.is_fault.ensures ∙ c.if-is_fault.false) c.in-Err.ensures.told c.in-Err-flush-2.ensures.err

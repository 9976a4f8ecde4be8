use Rattle.std.proofs.Common.{true, false, ◌∙◌}
use Rattle.wire_link.proofs.Carryings.{suits}
use Rattle.wire_link.proofs.Goings.{exchanged}
use Rattle.wire_link.proofs.sessions.answer.Goals as goal

pub carry_out-answered-requires-clause-suits : goal.carry_out-answered-requires-clause-suits
carry_out-answered-requires-clause-suits g c = suits c.args.talk.now.standing c.args.line.now c.args.payload.now c.request-request.result c.requires.item c.request-request.ensures

pub returns-in-Ok-clause-ok : goal.returns-in-Ok-clause-ok
returns-in-Ok-clause-ok g c =
    exchanged false c.args.line.now c.args.payload.now _ _ c.request-request.result c.carry_out-answered.result.text.bytes c.as_bytes.result.now (c.as_bytes.ensures.value ∙ c.as_str.ensures.value) c.requires.item c.request-request.ensures c.carry_out-answered.ensures.came c.saturating_add-talk.ensures c.in-Ok.ensures.ok

pub returns-in-Err-clause-err : goal.returns-in-Err-clause-err
returns-in-Err-clause-err g c =
    exchanged true c.args.line.now c.args.payload.now _ _ c.request-request.result c.carry_out-answered.result.text.bytes c.as_bytes.result.now (c.as_bytes.ensures.value ∙ c.as_str.ensures.value) c.requires.item c.request-request.ensures c.carry_out-answered.ensures.came c.saturating_add-talk.ensures c.in-Err.ensures.err

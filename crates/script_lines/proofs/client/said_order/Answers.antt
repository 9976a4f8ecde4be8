use Rattle.std.proofs.Common.{sym}
use Rattle.script_lines.proofs.SaidLines.{said_at-back, found-asks, asks-this, asks-none}
use Rattle.script_lines.proofs.client.said_order.Goals as goal

pub returns-in-Some-clause-found : goal.returns-in-Some-clause-found
returns-in-Some-clause-found c =
    found-asks c.args.line.now c.in-Some.client c.in-Some.said.now c.command_order.result (said_at-back _ _ _ (sym c.in-Some.ensures.said)) c.command_order.ensures.found

pub returns-in-Some-clause-all : goal.returns-in-Some-clause-all
returns-in-Some-clause-all c = λ order is on. c.command_order.ensures.all order (asks-this _ _ _ order (sym c.in-Some.ensures.said) is on)

pub returns-in-None-clause-all : goal.returns-in-None-clause-all
returns-in-None-clause-all c = λ order is on. absurd (asks-none c.args.line.now order (sym c.in-None.ensures.said) is on)

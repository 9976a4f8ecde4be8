use Rattle.std.proofs.Common.{sym}
use Rattle.script_lines.proofs.PlainLines.{plain_back}
use Rattle.script_lines.proofs.Telling.{asks-suits, found-suits, plain_alone, said_alone}
use Rattle.script_lines.proofs.line.line_order.Goals as goal

pub returns-in-Some-clause-order : goal.returns-in-Some-clause-order
returns-in-Some-clause-order c = plain_back c.args.line.now c.in-Some.order (sym c.in-Some.ensures)

pub returns-in-Some-clause-all : goal.returns-in-Some-clause-all
returns-in-Some-clause-all c = plain_alone c.args.line.now c.in-Some.order (sym c.in-Some.ensures)

pub returns-in-Some-clause-suits : goal.returns-in-Some-clause-suits
returns-in-Some-clause-suits c = asks-suits c.args.line.now c.in-Some.order (plain_back c.args.line.now c.in-Some.order (sym c.in-Some.ensures))

pub returns-in-None-clause-all : goal.returns-in-None-clause-all
returns-in-None-clause-all c = said_alone c.args.line.now c.said_order.result (sym c.in-None.ensures) c.said_order.ensures.all

pub returns-in-None-clause-suits : goal.returns-in-None-clause-suits
returns-in-None-clause-suits c = found-suits c.args.line.now c.said_order.result c.said_order.ensures.found

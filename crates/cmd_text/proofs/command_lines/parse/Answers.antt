-- what was read is what the grammar says
use Rattle.std.proofs.Common.{ap, Result, Ok}
use Rattle.cmd_words.specs.declared.commands.Command.{Command}
use Rattle.cmd_text.specs.declared.command_lines.BadLine.{BadLine}
use Rattle.cmd_text.proofs.Places.{found_line, only_line, no_line, left_within, place_is}
use Rattle.cmd_text.proofs.command_lines.parse.Goals as goal

pub overflow_sub-result : goal.overflow_sub-result
overflow_sub-result c = left_within c.args.line.now c.in-Err.left c.in-Err.ensures

pub returns-in-Ok-clause-found : goal.returns-in-Ok-clause-found
returns-in-Ok-clause-found c = found_line c.args.line.now c.in-Ok.command c.in-Ok.ensures

pub returns-in-Ok-clause-all : goal.returns-in-Ok-clause-all
returns-in-Ok-clause-all c = λ d h. let make : Command → Result Command BadLine = λ e. Ok e in ap make (only_line c.args.line.now c.in-Ok.command d c.in-Ok.ensures h)

pub returns-in-Err-clause-all : goal.returns-in-Err-clause-all
returns-in-Err-clause-all c = λ d h. absurd (no_line c.args.line.now c.in-Err.left d c.in-Err.ensures h)

pub returns-in-Err-clause-place : goal.returns-in-Err-clause-place
returns-in-Err-clause-place c = place_is c.args.line.now c.in-Err.left c.in-Err.ensures

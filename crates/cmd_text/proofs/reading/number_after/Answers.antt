-- seven digits are below 2 ^ 30
use Rattle.std.proofs.Common.{◌+◌, arith}
use Rattle.cmd_text.proofs.Numerals.{power_7}
use Rattle.cmd_text.proofs.reading.number_after.Goals as goal

pub overflow_mul-number : goal.overflow_mul-number
overflow_mul-number c = omega (arith, power_7 (c.loop-digit.digit-index + 1) (omega arith), c.loop-digit.invariant.small)

pub returns-clause-small : goal.returns-clause-small
returns-clause-small c = omega (arith, power_7 (c.loop-digit.digit-index + 1) (omega arith), c.loop-digit.invariant.small)

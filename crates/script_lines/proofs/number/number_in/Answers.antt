use Rattle.std.proofs.Common.{◌∙◌}
use Rattle.script_lines.proofs.Numerals.{number_at-on, found_number}
use Rattle.script_lines.proofs.number.number_in.Goals as goal

pub returns-clause-found : goal.returns-clause-found
returns-clause-found c = found_number _ _ _ _ c.number_at.ensures.number

pub returns-clause-all : goal.returns-clause-all
returns-clause-all c = λ n h. c.number_at.ensures.number ∙ number_at-on _ _ _ n h

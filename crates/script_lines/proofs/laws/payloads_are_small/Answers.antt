use Rattle.script_lines.proofs.Telling.{payloads_are_small}
use Rattle.script_lines.proofs.laws.payloads_are_small.Goals as goal

pub returns : goal.returns
returns c = payloads_are_small

use Rattle.script_lines.proofs.Telling.{one_payload}
use Rattle.script_lines.proofs.laws.one_payload.Goals as goal

pub returns : goal.returns
returns c = one_payload

use Rattle.script_lines.proofs.Telling.{one_order}
use Rattle.script_lines.proofs.laws.one_order.Goals as goal

pub returns : goal.returns
returns c = one_order

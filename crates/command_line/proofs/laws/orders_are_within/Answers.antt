use Rattle.command_line.proofs.Ranges.{orders_within}
use Rattle.command_line.proofs.laws.orders_are_within.Goals as goal

pub returns : goal.returns
returns c = orders_within

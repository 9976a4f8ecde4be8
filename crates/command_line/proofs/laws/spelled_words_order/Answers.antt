use Rattle.command_line.proofs.Readings.{spelled_orders}
use Rattle.command_line.proofs.laws.spelled_words_order.Goals as goal

pub returns : goal.returns
returns c = spelled_orders

use Rattle.command_line.specs.declared.order.Order.TheVariants.{Play}
use Rattle.dope_run.proofs.words.play_shape.Goals as goal

pub returns-in-Err-clause-usage : goal.returns-in-Err-clause-usage
returns-in-Err-clause-usage c = λ is shape. c.in-Err.ensures.usage is (Play shape)

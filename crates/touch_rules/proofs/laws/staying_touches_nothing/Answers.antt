use Rattle.touch_rules.proofs.OthersLooks.{staying_touches_nothing}
use Rattle.touch_rules.proofs.laws.staying_touches_nothing.Goals as goal

pub returns : goal.returns
returns c = staying_touches_nothing

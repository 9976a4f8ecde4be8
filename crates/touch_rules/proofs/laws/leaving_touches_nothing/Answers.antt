use Rattle.touch_rules.proofs.OthersLooks.{leaving_touches_nothing}
use Rattle.touch_rules.proofs.laws.leaving_touches_nothing.Goals as goal

pub returns : goal.returns
returns c = leaving_touches_nothing

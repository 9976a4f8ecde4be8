use Rattle.redraw_core.proofs.JoinLemmas.{IfSome-swap}
use Rattle.redraw_core.proofs.pairs.joined.Goals as goal

pub returns-in-None : goal.returns-in-None
returns-in-None c = IfSome-swap c.continued-in-None.result c.args.a c.args.b c.continued-in-None.ensures.pixels

use Rattle.geom_core.proofs.PieceLemmas.{IsFront-whole, with_part-some}
use Rattle.geom_core.proofs.fronts.whole.Goals as goal

pub returns-clause-front : goal.returns-clause-front
returns-clause-front c = λ n all. rw (c.put.ensures.items, c.new-drawn.ensures, c.new.ensures) (IsFront-whole c.args.a n c.requires all)

pub returns-clause-whole : goal.returns-clause-whole
returns-clause-whole c = λ some. rw (c.put.ensures.items, c.new-drawn.ensures) (with_part-some _ c.args.a some)

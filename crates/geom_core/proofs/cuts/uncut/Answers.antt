use Rattle.geom_core.proofs.PieceLemmas.{IsCut-from_empty}
use Rattle.geom_core.proofs.cuts.uncut.Goals as goal

pub returns : goal.returns
returns c = λ hole none. rw (c.put.ensures.items, c.new-parts.ensures) (IsCut-from_empty c.args.a hole c.requires none)

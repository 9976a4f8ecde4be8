use Rattle.std.proofs.Common.{◌-◌}
use Rattle.tree_core.proofs.Downward.{IsGreatest}
use Rattle.tree_core.proofs.going_down.+height_in.Given as goal

abbrev pub decreases-height_in : goal.decreases-height_in
decreases-height_in l = l.most

abbrev pub invariant-loop-index : goal.invariant-loop-index
invariant-loop-index l = IsGreatest l.store l.cells (l.most - 1) l.id l.index l.greatest

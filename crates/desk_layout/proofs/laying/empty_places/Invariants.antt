use Rattle.desk_layout.specs.Laid.{AreEmptied}
use Rattle.desk_layout.proofs.laying.empty_places.Given as goal

abbrev pub invariant-loop-k : goal.invariant-loop-k
invariant-loop-k l = AreEmptied l.client l.k l.fn.tree l.tree

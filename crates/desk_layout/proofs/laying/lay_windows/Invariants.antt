use Rattle.desk_layout.specs.Laid.{AreLaidTo}
use Rattle.desk_layout.proofs.laying.lay_windows.Given as goal

abbrev pub invariant-loop-k : goal.invariant-loop-k
invariant-loop-k l = AreLaidTo l.client l.k l.fn.tree l.tree

use Rattle.redraw_core.specs.Cells.{in_run, IsMarked}
use Rattle.redraw_core.proofs.runs.mark_run.Given as goal

abbrev pub invariant-loop-k : goal.invariant-loop-k
invariant-loop-k l = IsMarked (in_run l.from l.k) l.more l.initial.cells l.cells

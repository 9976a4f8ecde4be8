use Rattle.redraw_core.specs.Cells.{in_run, IsErased}
use Rattle.redraw_core.proofs.runs.erase_run.Given as goal

abbrev pub invariant-loop-k : goal.invariant-loop-k
invariant-loop-k l = IsErased (in_run l.from l.k) l.fewer l.initial.cells l.cells

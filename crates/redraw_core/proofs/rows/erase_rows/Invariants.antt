use Rattle.geom_core.specs.Rect.{in_rect}
use Rattle.geom_core.specs.Splits.{upper_rows}
use Rattle.redraw_core.specs.Cells.{at_index, IsErased}
use Rattle.redraw_core.proofs.rows.erase_rows.Given as goal

abbrev pub invariant-loop-row : goal.invariant-loop-row
invariant-loop-row l = IsErased (at_index (in_rect (upper_rows l.rect l.row)) l.width) l.fewer l.initial.cells l.cells

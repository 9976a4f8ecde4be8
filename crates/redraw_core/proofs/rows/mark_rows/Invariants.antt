use Rattle.geom_core.specs.Rect.{in_rect}
use Rattle.geom_core.specs.Splits.{upper_rows}
use Rattle.redraw_core.specs.Cells.{at_index, IsMarked}
use Rattle.redraw_core.proofs.rows.mark_rows.Given as goal

abbrev pub invariant-loop-row : goal.invariant-loop-row
invariant-loop-row l = IsMarked (at_index (in_rect (upper_rows l.rect l.row)) l.width) l.more l.initial.cells l.cells

use Rattle.std.proofs.Common.{◌+◌, ◌*◌}
use Rattle.geom_core.specs.Rect.{in_rect}
use Rattle.geom_core.specs.Splits.{upper_rows}
use Rattle.redraw_core.specs.Cells.{at_index, in_run}
use Rattle.redraw_core.proofs.CellLemmas.{IsMarked-then, row_joined}
use Rattle.redraw_core.proofs.rows.mark_rows.Goals as goal

pub loop-row-preserved : goal.loop-row-preserved
loop-row-preserved c =
    let rect = c.args.rect in
    let width = c.args.width in
    let row = c.loop-row.row in
    let from = (c.corner_of-x.result.1 + row) * width + c.corner_of-x.result.0 in
    IsMarked-then (at_index (in_rect (upper_rows rect row)) width) (in_run from (from + rect.w)) (at_index (in_rect (upper_rows rect (row + 1))) width) c.loop-row.more c.mark_run-more.result
    c.args.cells.now c.loop-row.cells c.mark_run-more.new.cells c.loop-row.invariant c.mark_run-more.ensures
    (λ k. row_joined rect width _ row c.corner_of-x.result.0 c.corner_of-x.result.1 k c.requires.wide c.requires.within c.corner_of-x.ensures.column c.corner_of-x.ensures.row)

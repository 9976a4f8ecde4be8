use Rattle.std.proofs.Common.{◌+◌, ◌*◌}
use Rattle.geom_core.specs.Rect.{in_rect}
use Rattle.geom_core.specs.Splits.{upper_rows}
use Rattle.redraw_core.specs.Cells.{at_index, in_run}
use Rattle.redraw_core.proofs.CellLemmas.{IsErased-then, row_joined}
use Rattle.redraw_core.proofs.rows.erase_rows.Goals as goal

pub loop-row-preserved : goal.loop-row-preserved
loop-row-preserved c =
    let rect = c.args.rect in
    let width = c.args.width in
    let row = c.loop-row.row in
    let from = (c.corner_of-x.result.1 + row) * width + c.corner_of-x.result.0 in
    IsErased-then (at_index (in_rect (upper_rows rect row)) width) (in_run from (from + rect.w)) (at_index (in_rect (upper_rows rect (row + 1))) width) c.loop-row.fewer c.erase_run-fewer.result
    c.args.cells.now c.loop-row.cells c.erase_run-fewer.new.cells c.loop-row.invariant c.erase_run-fewer.ensures
    (λ k. row_joined rect width _ row c.corner_of-x.result.0 c.corner_of-x.result.1 k c.requires.wide c.requires.within c.corner_of-x.ensures.column c.corner_of-x.ensures.row)

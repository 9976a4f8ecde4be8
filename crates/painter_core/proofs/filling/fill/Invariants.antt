use Rattle.std.proofs.Common.{◌≡◌, ◌+◌, ◌*◌}
use Rattle.geom_core.specs.Rect.{in_rect}
use Rattle.geom_core.specs.Splits.{upper_rows}
use Rattle.painter_core.specs.Painted.{Painted}
use Rattle.painter_core.specs.Stage.{layers_of}
use Rattle.painter_core.proofs.filling.fill.Given as goal

abbrev pub invariant-loop-row : goal.invariant-loop-row
invariant-loop-row l = record {
  painted : Painted (in_rect (upper_rows l.piece l.row)) ((layers_of l.view).colour l.under) (l.piece.w * l.row) l.initial.canvas l.canvas;
  spans : l.canvas.spans ≡ l.initial.canvas.spans + l.row;
}

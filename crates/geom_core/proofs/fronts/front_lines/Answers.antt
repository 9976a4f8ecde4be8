use Rattle.std.proofs.Common.{ap, ◌∙◌}
use Rattle.geom_core.specs.declared.rectangle.Rect.{Rect}
use Rattle.geom_core.proofs.PieceLemmas.{IsFront-from_splits}
use Rattle.geom_core.proofs.SplitLemmas.{lines_areas}
use Rattle.geom_core.proofs.fronts.front_lines.Goals as goal

pub returns : goal.returns
returns c =
    let line = c.split_rows-2.result.0 in
    let height = ap (λ (r : Rect). r.h) c.split_rows-2.ensures.upper ∙ c.min.ensures in
    let areas = lines_areas c.args.a c.split_rows.result.0 line c.split_columns.result.0 c.args.n c.from-width.result c.from-width.ensures c.split_rows.ensures.upper height c.split_columns.ensures.left in
    rw (c.put-2.ensures.items, c.put.ensures.items, c.new-drawn.ensures, c.put-4.ensures.items, c.put-3.ensures.items, c.new-rest.ensures)
    (IsFront-from_splits c.args.a c.split_rows.result.0 c.split_rows.result.1 line c.split_rows-2.result.1 c.split_columns.result.0 c.split_columns.result.1 c.args.n c.split_rows.ensures.split c.split_rows-2.ensures.split c.split_columns.ensures.split areas)

use Rattle.std.proofs.Common.{◌≡◌, ◌+ℤ◌, pos, arith, ap, ◌∙◌, subst}
use Rattle.std.proofs.lemmas.Int.{ints}
use Rattle.geom_core.specs.declared.rectangle.Rect.{Rect}
use Rattle.geom_core.specs.Splits.{left_columns, right_columns, upper_rows, IsSplit}
use Rattle.geom_core.proofs.PieceLemmas.{IsCut-from_splits}
use Rattle.geom_core.proofs.SplitLemmas.{center_is}
use Rattle.geom_core.proofs.cuts.cut_around.Goals as goal

pub split_rows-requires-2-clause-fits : goal.split_rows-requires-2-clause-fits
split_rows-requires-2-clause-fits c = omega (arith, ints, ap (λ (r : Rect). r.h) c.split_rows.ensures.lower)

pub split_columns-requires-2-clause-fits : goal.split_columns-requires-2-clause-fits
split_columns-requires-2-clause-fits c =
    let rest = c.split_rows.ensures.lower in
    let middle = c.split_rows-2.ensures.upper in
    omega (arith, ints, ap (λ (r : Rect). r.w) c.split_columns.ensures.right, ap (λ (r : Rect). r.w) middle, ap (λ (r : Rect). r.x) middle, ap (λ (r : Rect). r.w) rest, ap (λ (r : Rect). r.x) rest)

pub returns : goal.returns
returns c =
    let a = c.args.a in
    let hole = c.args.hole in
    let rest = c.split_rows.ensures.lower in
    let middle = c.split_rows-2.ensures.upper in
    let across : a.x +ℤ pos c.columns_left.result ≡ hole.x = omega (arith, ints, ap (λ (r : Rect). r.x) middle, ap (λ (r : Rect). r.x) rest) in
    let center = c.split_columns-2.ensures.left ∙ ap (λ (r : Rect). left_columns r hole.w) (c.split_columns.ensures.right ∙ ap (λ (r : Rect). right_columns r c.columns_left.result) (middle ∙ ap (λ (r : Rect). upper_rows r hole.h) rest)) ∙ center_is a hole c.rows_above.result c.columns_left.result c.rows_above.ensures across in
    let last = subst (λ (r : Rect). IsSplit c.split_columns.result.1 r c.split_columns-2.result.1) center c.split_columns-2.ensures.split in
    rw (c.put-4.ensures.items, c.put-3.ensures.items, c.put-2.ensures.items, c.put.ensures.items, c.new-parts.ensures)
    (IsCut-from_splits a hole c.split_rows.result.0 c.split_rows.result.1 c.split_rows-2.result.0 c.split_rows-2.result.1 c.split_columns.result.0 c.split_columns.result.1 c.split_columns-2.result.1 c.requires.in_range c.split_rows.ensures.split c.split_rows-2.ensures.split c.split_columns.ensures.split last)

use Rattle.std.proofs.Common.{◌≡◌, ◌*◌, sym, subst, ap, arith}
use Rattle.std.specs.Prelude.{IfSome}
use Rattle.geom_core.specs.declared.rectangle.Rect.{Rect}
use Rattle.geom_core.specs.Rect.{in_rect, IsEnclosed, IsInside}
use Rattle.geom_core.specs.Count.{screen_of}
use Rattle.geom_core.specs.Splits.{row_at, upper_rows}
use Rattle.geom_core.proofs.RectLemmas.{IsInside-from_enclosed, sides_some}
use Rattle.painter_core.specs.Painted.{Filled}
use Rattle.painter_core.specs.Stage.{layers_of}
use Rattle.painter_core.proofs.CutLemmas.{on_screen_kept}
use Rattle.painter_core.proofs.RowLemmas.{row_in_piece, IsEnclosed-trans, IsInRange-on_screen, inside_of, rows_left, Painted-no_rows, Painted-line}
use Rattle.painter_core.proofs.filling.fill.Goals as goal

pub loop-row-init : goal.loop-row-init
loop-row-init c = record {
  painted = Painted-no_rows c.args.piece ((layers_of c.args.view.now).colour c.args.under) c.args.canvas.now c.requires.valid;
  spans = omega arith;
}

pub row_of-requires : goal.row_of-requires
row_of-requires c = record { in_range = IsInRange-on_screen c.args.piece c.args.canvas.now c.requires.valid c.requires.on_screen; within = omega arith }

pub fill_row-requires : goal.fill_row-requires
fill_row-requires c =
    let piece = c.args.piece in
    let k = c.loop-row.row in
    let old = c.args.canvas.now in
    let now = c.loop-row.canvas in
    let layers = layers_of c.args.view.now in
    let line = row_at piece k in
    let is = c.row_of.ensures in
    let before = c.loop-row.invariant.painted in
    let within : IsEnclosed line piece = row_in_piece piece k (omega arith) in
    let on = on_screen_kept (in_rect (upper_rows piece k)) (layers.colour c.args.under) (piece.w * k) old now line before (IsEnclosed-trans line piece (screen_of old.width old.height) within c.requires.on_screen) in
    let inside = inside_of layers c.args.under line piece (IsInside-from_enclosed line piece within) c.requires.inside in
    let some = sides_some piece.w piece.h c.requires.filled in
    let width : c.row_of.result.w ≡ piece.w = ap (λ (r : Rect). r.w) is in
    record {
      stage = c.requires.stage;
      there = c.requires.there;
      inside = subst (λ (r : Rect). IfSome c.args.under (λ id. IsInside r (layers.rect id))) (sym is) inside;
      one_row = ap (λ (r : Rect). r.h) is;
      filled = omega (arith, some.0, width);
      on_screen = subst (λ (r : Rect). IsEnclosed r (screen_of now.width now.height)) (sym is) on;
      valid = before.valid;
      count_fits = omega (arith, before.writes, c.requires.count_fits, rows_left piece.w k piece.h (omega arith), width);
    }

pub loop-row-preserved : goal.loop-row-preserved
loop-row-preserved c =
    let piece = c.args.piece in
    let k = c.loop-row.row in
    let colour = (layers_of c.args.view.now).colour c.args.under in
    let line : Filled colour (row_at piece k) c.loop-row.canvas c.fill_row.new.canvas = subst (λ (r : Rect). Filled colour r c.loop-row.canvas c.fill_row.new.canvas) c.row_of.ensures c.fill_row.ensures in
    record {
      painted = Painted-line piece k colour c.args.canvas.now c.loop-row.canvas c.fill_row.new.canvas c.loop-row.invariant.painted line.painted;
      spans = omega (arith, line.spans, c.loop-row.invariant.spans);
    }

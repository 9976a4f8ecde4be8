use Rattle.std.proofs.Common.{◌<◌, refl, ap, ◌∙◌, arith}
use Rattle.canvas_core.specs.Screen.{risen}
use Rattle.canvas_core.proofs.Span.{risen-none}
use Rattle.geom_core.specs.Rect.{area_of, IsInside}
use Rattle.geom_core.specs.Count.{screen_of}
use Rattle.geom_core.proofs.RectLemmas.{IsEnclosed-from_inside}
use Rattle.painter_core.proofs.PaintedLemmas.{risen_by-none}
use Rattle.painter_core.proofs.StageLemmas.{IsPaintable-view}
use Rattle.painter_core.proofs.SceneLemmas.{windows_few, one_trail, ShowsScene-piece, whole_counted}
use Rattle.painter_core.proofs.pieces.paint.Goals as goal

pub paint_from-requires-clause-stage : goal.paint_from-requires-clause-stage
paint_from-requires-clause-stage c = IsPaintable-view c.args.view.now c.requires.view c.requires.places

pub paint_from-requires-clause-few_slots : goal.paint_from-requires-clause-few_slots
paint_from-requires-clause-few_slots c = windows_few c.args.view.now c.requires.view

pub paint_from-requires-clause-on_screen : goal.paint_from-requires-clause-on_screen
paint_from-requires-clause-on_screen c = let some : 0 < area_of c.args.piece = omega (arith, c.if-area-eq0.false, c.area.ensures) in IsEnclosed-from_inside c.args.piece (screen_of c.args.canvas.now.width c.args.canvas.now.height) some c.requires.on_screen

pub returns-clause-pixels : goal.returns-clause-pixels
returns-clause-pixels c = ShowsScene-piece c.args.view.now c.args.piece c.paint_from.result c.args.canvas.now c.paint_from.new.canvas c.requires.view.valid c.requires.view c.requires.width c.requires.height c.paint_from.ensures

pub returns-clause-writes : goal.returns-clause-writes
returns-clause-writes c = omega (arith, c.paint_from.ensures.painted.writes, whole_counted c.args.view.now c.args.piece c.paint_from.result c.args.canvas.now c.paint_from.new.canvas c.paint_from.ensures)

pub returns-clause-spans : goal.returns-clause-spans
returns-clause-spans c some one =
    let inside : IsInside c.args.piece (screen_of c.args.view.now.width c.args.view.now.height) = rw (← c.requires.width, ← c.requires.height) c.requires.on_screen in
    c.paint_from.ensures.at_once refl (one_trail c.args.view.now c.args.piece c.requires.view.valid c.requires.view inside one)

pub returns-clause-all_writes : goal.returns-clause-all_writes
returns-clause-all_writes c =
    c.paint_from.ensures.painted.all_writes
    ∙ ap (λ n. risen c.args.canvas.now.all_writes n) (whole_counted c.args.view.now c.args.piece c.paint_from.result c.args.canvas.now c.paint_from.new.canvas c.paint_from.ensures)

pub returns-then-area-eq0-clause-all_writes : goal.returns-then-area-eq0-clause-all_writes
returns-then-area-eq0-clause-all_writes c =
    risen-none c.args.canvas.now.all_writes c.requires.valid.all_writes_fit
    ∙ ap (λ n. risen c.args.canvas.now.all_writes n) (omega (arith, c.if-area-eq0.true, c.area.ensures))

pub returns-then-area-eq0-clause-all_spans : goal.returns-then-area-eq0-clause-all_spans
returns-then-area-eq0-clause-all_spans c = risen_by-none c.args.canvas.now.all_spans c.args.canvas.now.spans c.requires.valid.all_spans_fit

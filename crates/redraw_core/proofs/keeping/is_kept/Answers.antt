use Rattle.std.proofs.Common.{pos, w32, sym, ◌∙◌, arith}
use Rattle.std.proofs.lemmas.Int.{to_z_pos}
use Rattle.std.proofs.lemmas.Bool.{or_from}
use Rattle.geom_core.proofs.RectLemmas.{rect_of}
use Rattle.geom_core.proofs.PieceLemmas.{covers-at, covers-take_more}
use Rattle.redraw_core.proofs.keeping.is_kept.Goals as goal

pub returns-then-holds : goal.returns-then-holds
returns-then-holds c =
    let zeros = rect_of (pos 0) (pos 0) 0 0 in
    let here = rw (to_z_pos w32 c.args.x (omega arith), to_z_pos w32 c.args.y (omega arith)) at c.holds.ensures in
    sym (covers-at c.args.kept.now c.loop-rect.rect-index zeros (pos c.args.x) (pos c.args.y) c.loop-rect-test.true (sym here ∙ c.if-holds.true))

pub loop-rect-preserved : goal.loop-rect-preserved
loop-rect-preserved c =
    let zeros = rect_of (pos 0) (pos 0) 0 0 in
    let here = rw (to_z_pos w32 c.args.x (omega arith), to_z_pos w32 c.args.y (omega arith)) at c.holds.ensures in
    covers-take_more c.args.kept.now c.loop-rect.rect-index zeros (pos c.args.x) (pos c.args.y) c.loop-rect-test.true
    ∙ or_from _ _ c.loop-rect.invariant (sym here ∙ c.if-holds.false)

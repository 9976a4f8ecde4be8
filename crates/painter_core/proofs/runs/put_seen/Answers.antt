use Rattle.std.proofs.Common.{◌<◌, List, sym, subst, arith}
use Rattle.geom_core.specs.declared.rectangle.Rect.{Rect}
use Rattle.geom_core.proofs.RectLemmas.{area_some}
use Rattle.painter_core.specs.Runs.{IsPut}
use Rattle.painter_core.proofs.PartLemmas.{IsPut-some}
use Rattle.painter_core.proofs.runs.put_seen.Goals as goal

pub returns-then-seen-ne0-2 : goal.returns-then-seen-ne0-2
returns-then-seen-ne0-2 c =
    let seen = c.meet-seen.result in
    let across : 0 < seen.w = omega (arith, c.if-seen-ne0.true) in
    let down : 0 < seen.h = omega (arith, c.if-seen-ne0-2.true) in
    subst (λ (rs : List Rect). IsPut c.args.part c.args.screen c.args.parts.now.items rs) (sym c.push.ensures.items)
    (IsPut-some c.args.part c.args.screen seen c.args.parts.now.items c.meet-seen.ensures.pixels (area_some seen.w seen.h across down))

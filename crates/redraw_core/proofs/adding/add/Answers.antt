use Rattle.std.proofs.Common.{◌≡◌, arith}
use Rattle.geom_core.specs.Rect.{in_rect, area_of}
use Rattle.redraw_core.proofs.QueueLemmas.{Added-nothing}
use Rattle.redraw_core.proofs.adding.add.Goals as goal
use Rattle.redraw_core.proofs.adding.add.Goals.{then-part-eq0-via-then-part-eq0, then-part-eq0-via-else-part-eq0+then-part-eq0-2}

pub returns-then-part-eq0 : goal.returns-then-part-eq0
returns-then-part-eq0 c =
    let store = c.args.store.now in
    let shared = rw (c.width.ensures.width, c.height.ensures.height) at c.meet-part.ensures.pixels in
    let empty : area_of c.meet-part.result ≡ 0 = elim c.then-part-eq0.branch [ then-part-eq0-via-then-part-eq0 w ↦ grind arith | then-part-eq0-via-else-part-eq0+then-part-eq0-2 w ↦ grind arith ] in
    Added-nothing (in_rect c.args.rect) c.meet-part.result store.kept.items store.area store.map shared empty c.requires

use Rattle.std.proofs.Common.{◌≡◌, pos, false, take}
use Rattle.geom_core.specs.Pieces.{covers}
use Rattle.redraw_core.proofs.keeping.is_kept.Given as goal

abbrev pub invariant-loop-rect : goal.invariant-loop-rect
invariant-loop-rect l = covers (take l.rect-index l.kept) (pos l.x) (pos l.y) ≡ false

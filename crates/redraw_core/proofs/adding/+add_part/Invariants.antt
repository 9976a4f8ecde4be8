use Rattle.std.proofs.Common.{take, ◌-◌}
use Rattle.geom_core.specs.Pieces.{covers}
use Rattle.redraw_core.specs.Stored.{Grown}
use Rattle.redraw_core.proofs.adding.+add_part.Given as goal

abbrev pub decreases-add_part : goal.decreases-add_part
decreases-add_part l = 256 - l.from

abbrev pub invariant-loop-piece : goal.invariant-loop-piece
invariant-loop-piece l = Grown (covers (take l.piece-index l.piece-items)) l.fn.store.kept.items l.fn.store.map l.store.kept.items l.store.area l.store.map

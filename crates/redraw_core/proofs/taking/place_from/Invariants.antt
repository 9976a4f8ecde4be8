use Rattle.std.proofs.Common.{◌-◌, drop, length}
use Rattle.geom_core.specs.Pieces.{covers}
use Rattle.redraw_core.specs.Stored.{Grown}
use Rattle.redraw_core.proofs.taking.place_from.Given as goal

abbrev pub invariant-loop-i : goal.invariant-loop-i
invariant-loop-i l = Grown (covers (drop (length l.parts - l.i) l.parts)) l.initial.store.kept.items l.initial.store.map l.store.kept.items l.store.area l.store.map

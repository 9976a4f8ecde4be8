use Rattle.std.proofs.Common.{take}
use Rattle.std.specs.List.{list_any}
use Rattle.geom_core.specs.Rect.{in_rect}
use Rattle.drawing_core.specs.Marking.{Marked}
use Rattle.drawing_core.proofs.marking.add_all.Given as goal

abbrev pub invariant-loop-area : goal.invariant-loop-area
invariant-loop-area l = Marked (λ x y. list_any (λ area. in_rect area x y) (take l.area-index l.areas)) l.initial.queue l.queue

use Rattle.std.proofs.Common.{◌≡◌, ◌+◌, ◌-◌, ◌*◌, ◌∷◌, length, take}
use Rattle.painter_core.specs.Painted.{PaintsAll}
use Rattle.painter_core.specs.Stage.{layers_of}
use Rattle.painter_core.specs.Trail.{trail, slots_from}
use Rattle.painter_core.proofs.painting.+paint_from.Given as goal

abbrev pub decreases-paint_from : goal.decreases-paint_from
decreases-paint_from l = l.depth * 512 + (length ((layers_of l.view.now).below l.under) - l.from)

abbrev pub invariant-loop-part : goal.invariant-loop-part
invariant-loop-part l = record {
  all : PaintsAll (layers_of l.view) l.only l.under (trail l.depth (layers_of l.view) (slots_from (layers_of l.view) l.under l.from)) (l.found.shared ∷ take l.part-index l.part-items) l.count l.fn.canvas l.canvas;
  start : l.part-index ≡ 0 → l.canvas ≡ l.initial.canvas;
}

use Rattle.std.proofs.Common.{take}
use Rattle.std.specs.Prelude.{Some, None}
use Rattle.painter_core.specs.Painted.{PaintsAll}
use Rattle.painter_core.specs.Stage.{layers_of}
use Rattle.painter_core.specs.Trail.{trail, slots_from}
use Rattle.painter_core.proofs.bands.paint_parts.Given as goal

-- the parts so far are painted
abbrev pub invariant-loop-part : goal.invariant-loop-part
invariant-loop-part l = PaintsAll (layers_of l.view) (Some l.id) None (trail 13 (layers_of l.view) (slots_from (layers_of l.view) None 0)) (take l.part-index l.parts) l.count l.fn.canvas l.canvas

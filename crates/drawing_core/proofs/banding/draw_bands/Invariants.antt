use Rattle.std.proofs.Common.{take}
use Rattle.drawing_core.specs.Banding.{BandsDrawn}
use Rattle.drawing_core.proofs.banding.draw_bands.Given as goal

-- the bands so far are drawn
abbrev pub invariant-loop-entry : goal.invariant-loop-entry
invariant-loop-entry l = BandsDrawn l.view (take l.entry-index l.bands) l.count l.fn.canvas l.canvas

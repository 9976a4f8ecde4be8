use Rattle.std.proofs.Common.{◌≤◌, ◌-◌}
use Rattle.scene_core.specs.View.{scene_of}
use Rattle.drawing_core.specs.Drawing.{Drawn}
use Rattle.drawing_core.proofs.drawing.draw.Given as goal

abbrev pub invariant-loop-drawn : goal.invariant-loop-drawn
invariant-loop-drawn l = Drawn (scene_of l.view) l.initial.queue l.initial.canvas l.drawn l.queue l.canvas × (l.drawn ≤ l.room)

abbrev pub decreases-loop-drawn : goal.decreases-loop-drawn
decreases-loop-drawn l = l.room - l.drawn

use Rattle.std.proofs.Common.{◌≡◌, ℕ, ℤ, true}
use Rattle.geom_core.specs.Rect.{in_rect}
use Rattle.painter_core.specs.Stage.{layers_of}
use Rattle.painter_core.specs.Trail.{trail, slots_from}
use Rattle.painter_core.proofs.meeting.first_meeting.Given as goal

abbrev pub invariant-loop-slot : goal.invariant-loop-slot
invariant-loop-slot l = (depth : ℕ) (x y : ℤ) → in_rect l.piece x y ≡ true → trail depth (layers_of l.view) (slots_from (layers_of l.view) l.under l.fn.from) x y ≡ trail depth (layers_of l.view) (slots_from (layers_of l.view) l.under l.slot) x y

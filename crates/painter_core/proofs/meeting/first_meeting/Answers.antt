use Rattle.std.proofs.Common.{◌≡◌, ◌<◌, Bool, true, false, ◌&&◌, length, sym, ap, ◌∙◌, arith}
use Rattle.geom_core.specs.declared.rectangle.Rect.{Rect}
use Rattle.geom_core.specs.Rect.{in_rect, area_of}
use Rattle.geom_core.proofs.RectLemmas.{in_rect-empty}
use Rattle.painter_core.specs.Stage.{layers_of}
use Rattle.painter_core.proofs.TrailLemmas.{trail-end, trail-past, trail-past_empty}
use Rattle.painter_core.proofs.meeting.first_meeting.Goals as goal
use Rattle.painter_core.proofs.meeting.first_meeting.Goals.{in-Some+else-shared-ne0, in-None, else-shared-ne0-via-then-shared-ne0+else-shared-ne0-2, else-shared-ne0-via-else-shared-ne0}

missed : (p r s : Bool) → s ≡ (p && r) → s ≡ false → p ≡ true → r ≡ false
missed p r s e f g = grind arith

pub loop-slot-preserved : goal.loop-slot-preserved
loop-slot-preserved c depth x y e =
    let layers = layers_of c.args.view.now in
    let slots = layers.below c.args.under in
    let slot = c.loop-slot.slot in
    let within : slot < length slots = omega (arith, c.slot_count-slot-end.ensures.count, c.loop-slot-test.true) in
    c.loop-slot.invariant depth x y e
    ∙ elim c.match-in_slot.branch [
      | in-Some+else-shared-ne0 w ↦
          let shared = w.meet-shared.result in
          let empty : area_of shared ≡ 0 = elim w.else-shared-ne0.branch [
            | else-shared-ne0-via-then-shared-ne0+else-shared-ne0-2 w' ↦ grind arith
            | else-shared-ne0-via-else-shared-ne0 w' ↦ grind arith
          ] in
          let pixels = w.meet-shared.ensures.pixels x y ∙ ap (λ (r : Rect). in_rect c.args.piece x y && in_rect r x y) w.place.ensures in
          trail-past depth layers slots slot w.in-Some.id x y within (sym c.in_slot.ensures.found ∙ w.in-Some.is)
          (missed (in_rect c.args.piece x y) (in_rect (layers.rect w.in-Some.id) x y) (in_rect shared x y) pixels (in_rect-empty shared x y empty) e)
      | in-None w ↦ trail-past_empty depth layers slots slot x y within (sym c.in_slot.ensures.found ∙ w.in-None.is)
    ]

pub returns-clause-found : goal.returns-clause-found
returns-clause-found c depth x y e =
    let layers = layers_of c.args.view.now in
    c.loop-slot.invariant depth x y e ∙ trail-end depth layers (layers.below c.args.under) c.loop-slot.slot x y (omega (arith, c.slot_count-slot-end.ensures.count, c.loop-slot-test.false))

use Rattle.std.proofs.Common.{◌-◌, min, sym, ap, ◌∙◌, arith}
use Rattle.canvas_core.specs.Screen.{risen}
use Rattle.canvas_core.proofs.Span.{risen-then}
use Rattle.painter_core.proofs.PaintedLemmas.{risen_by-then}
use Rattle.kind_core.specs.declared.shapes.Shape.{Shape}
use Rattle.redraw_core.specs.Dirt.{dirty_count}
use Rattle.widget_model.specs.Widgets.{Widgets}
use Rattle.desk_model.specs.Desk.{Desk}
use Rattle.machine_model.specs.State.{IsState}
use Rattle.machine_model.proofs.Beat.{shape-beat}
use Rattle.machine_model.proofs.Ticks.{TickedWith-lost_marks, clean-is_picture, ticked-within_budget, ticked-fewer}
use Rattle.server_core.proofs.BandPixels.{handed_same, handed_once}
use Rattle.server_core.proofs.BeatShots.{stays-beaten}
use Rattle.server_core.proofs.InPlaceShots.{shot_in_place}
use Rattle.server_core.proofs.Parts.{Beats, tick_of_parts, bands_in_budget}
use Rattle.server_core.proofs.Reaching.{shows_of_desk, view-width, view-height}
use Rattle.server_core.proofs.server.Server.tick.Goals as goal

pub draw_bands-bands-requires-clause-one_each : goal.draw_bands-bands-requires-clause-one_each
draw_bands-bands-requires-clause-one_each c =
    handed_once c.view-view.result.tree.now.entries c.self.inside.desk.desk c.as_slice.result.now (handed_same c.beat-beaten.new.self.widgets.entries c.view-view.result.tree.now.entries c.beat-beaten.result.items c.as_slice.result.now c.self.inside.desk.desk (ap (λ (w : Widgets). w.entries) c.view-view.ensures.tree) c.as_slice.ensures.value c.beat-beaten.ensures.bands)
    c.self.invariant.0.state.desk.roster.once

pub draw_bands-bands-requires-clause-width : goal.draw_bands-bands-requires-clause-width
draw_bands-bands-requires-clause-width c =
    c.start_count.ensures.width ∙ c.self.invariant.0.width ∙ view-width c.view-view.result c.beat-beaten.new.self.desk c.self.inside.shape c.view-view.ensures.scene (ap (λ (d : Desk). d.shape) c.beat-beaten.ensures.beat ∙ shape-beat c.self.inside.desk.desk ∙ c.self.invariant.0.shape_is)

pub draw_bands-bands-requires-clause-height : goal.draw_bands-bands-requires-clause-height
draw_bands-bands-requires-clause-height c =
    c.start_count.ensures.height ∙ c.self.invariant.0.height ∙ view-height c.view-view.result c.beat-beaten.new.self.desk c.self.inside.shape c.view-view.ensures.scene (ap (λ (d : Desk). d.shape) c.beat-beaten.ensures.beat ∙ shape-beat c.self.inside.desk.desk ∙ c.self.invariant.0.shape_is)

pub overflow_sub-room : goal.overflow_sub-room
overflow_sub-room c =
    bands_in_budget c.self.inside.desk.desk c.beat-beaten.new.self.desk c.self.inside.canvas c.self.inside.queue c.view-view.result c.as_slice.result.now c.start_count.new.self c.draw_bands-bands.new.canvas c.draw_bands-bands.result c.self.invariant.0
    c.beat-beaten.ensures.beat c.view-view.ensures.scene (handed_same c.beat-beaten.new.self.widgets.entries c.view-view.result.tree.now.entries c.beat-beaten.result.items c.as_slice.result.now c.self.inside.desk.desk (ap (λ (w : Widgets). w.entries) c.view-view.ensures.tree) c.as_slice.ensures.value c.beat-beaten.ensures.bands) c.draw_bands-bands.ensures

pub draw-queue-requires-clause-width : goal.draw-queue-requires-clause-width
draw-queue-requires-clause-width c =
    c.draw_bands-bands.ensures.width ∙ c.start_count.ensures.width ∙ c.self.invariant.0.width ∙ view-width c.view-view.result c.beat-beaten.new.self.desk c.self.inside.shape c.view-view.ensures.scene (ap (λ (d : Desk). d.shape) c.beat-beaten.ensures.beat ∙ shape-beat c.self.inside.desk.desk ∙ c.self.invariant.0.shape_is)

pub draw-queue-requires-clause-height : goal.draw-queue-requires-clause-height
draw-queue-requires-clause-height c =
    c.draw_bands-bands.ensures.height ∙ c.start_count.ensures.height ∙ c.self.invariant.0.height ∙ view-height c.view-view.result c.beat-beaten.new.self.desk c.self.inside.shape c.view-view.ensures.scene (ap (λ (d : Desk). d.shape) c.beat-beaten.ensures.beat ∙ shape-beat c.self.inside.desk.desk ∙ c.self.invariant.0.shape_is)

pub draw-queue-requires-clause-dirt_width : goal.draw-queue-requires-clause-dirt_width
draw-queue-requires-clause-dirt_width c = c.self.invariant.0.dirt_width ∙ view-width c.view-view.result c.beat-beaten.new.self.desk c.self.inside.shape c.view-view.ensures.scene (ap (λ (d : Desk). d.shape) c.beat-beaten.ensures.beat ∙ shape-beat c.self.inside.desk.desk ∙ c.self.invariant.0.shape_is)

pub draw-queue-requires-clause-dirt_height : goal.draw-queue-requires-clause-dirt_height
draw-queue-requires-clause-dirt_height c = c.self.invariant.0.dirt_height ∙ view-height c.view-view.result c.beat-beaten.new.self.desk c.self.inside.shape c.view-view.ensures.scene (ap (λ (d : Desk). d.shape) c.beat-beaten.ensures.beat ∙ shape-beat c.self.inside.desk.desk ∙ c.self.invariant.0.shape_is)

-- what the calls of a tick do, one after another
abbrev Done : goal.After-count → Type 0
Done c =
    Beats c.self.inside.desk.desk c.beat-beaten.new.self.desk c.self.inside.canvas c.self.inside.queue c.view-view.result c.as_slice.result.now c.start_count.new.self c.draw_bands-bands.new.canvas c.draw-queue.new.canvas c.draw-queue.new.queue c.draw_bands-bands.result c.draw-queue.result c.count.result

done : (c : goal.After-count) → Done c
done c = record {
  beats = c.beat-beaten.ensures.beat;
  shown = c.view-view.ensures.scene;
  handed = (handed_same c.beat-beaten.new.self.widgets.entries c.view-view.result.tree.now.entries c.beat-beaten.result.items c.as_slice.result.now c.self.inside.desk.desk (ap (λ (w : Widgets). w.entries) c.view-view.ensures.tree) c.as_slice.ensures.value c.beat-beaten.ensures.bands);
  begun = c.start_count.ensures.valid;
  width = c.start_count.ensures.width;
  height = c.start_count.ensures.height;
  bytes = c.start_count.ensures.bytes;
  bands_drawn = c.draw_bands-bands.ensures;
  dirt_drawn = c.draw-queue.ensures.drawn;
  many = c.draw-queue.ensures.many ∙ ap (λ (s : Shape). min (dirty_count c.self.inside.queue) (s.budget - c.draw_bands-bands.result)) (sym c.self.invariant.0.shape_is);
  rest = c.count.ensures.count;
}

pub invariant_of-self : goal.invariant_of-self
invariant_of-self c = (
  (tick_of_parts c.self.invariant.0 (done c)).1,
  shows_of_desk c.beat-beaten.new.self c.view-view.result c.self.inside.shown c.view-view.ensures.scene c.view-view.ensures.tree c.view-view.ensures.stack c.view-view.ensures.view
      (shot_in_place c.self.inside.desk c.beat-beaten.new.self c.view-view.result c.self.inside.shown (ap (λ (d : Desk). d.shape) c.beat-beaten.ensures.beat ∙ shape-beat c.self.inside.desk.desk) (stays-beaten c.self.inside.desk.desk c.beat-beaten.new.self.desk c.beat-beaten.ensures.beat) c.beat-beaten.ensures.numbered
      c.view-view.ensures.scene c.view-view.ensures.tree c.view-view.ensures.stack c.view-view.ensures.view c.self.invariant.1),
)

pub returns-clause-step : goal.returns-clause-step
returns-clause-step c = rw (← c.self.view_is) (tick_of_parts c.self.invariant.0 (done c)).0

pub returns-clause-valid : goal.returns-clause-valid
returns-clause-valid c = (invariant_of-self c).0.state

pub returns-clause-chosen : goal.returns-clause-chosen
returns-clause-chosen c =
    let was : IsState c.args.self.now.state = rw (← c.self.view_is) c.self.invariant.0.state in
    TickedWith-lost_marks _ _ _ was (returns-clause-step c)

pub returns-clause-within_budget : goal.returns-clause-within_budget
returns-clause-within_budget c =
    let was : IsState c.args.self.now.state = rw (← c.self.view_is) c.self.invariant.0.state in
    omega (arith, ticked-within_budget _ _ _ was (returns-clause-step c), c.draw-queue.ensures.drawn.writes, c.draw_bands-bands.ensures.writes, c.start_count.ensures.writes)

pub returns-clause-fewer : goal.returns-clause-fewer
returns-clause-fewer c =
    let was : IsState c.args.self.now.state = rw (← c.self.view_is) c.self.invariant.0.state in
    ticked-fewer _ _ _ was (returns-clause-step c)

pub returns-clause-right : goal.returns-clause-right
returns-clause-right c = clean-is_picture _ (returns-clause-valid c)

pub returns-clause-all_writes : goal.returns-clause-all_writes
returns-clause-all_writes c =
    rw (← c.self.view_is)
    (c.draw-queue.ensures.drawn.all_writes
    ∙ ap (λ n. risen n c.draw-queue.result) (c.draw_bands-bands.ensures.all_writes ∙ ap (λ n. risen n c.draw_bands-bands.result) c.start_count.ensures.all_writes)
    ∙ risen-then c.self.inside.canvas.all_writes c.draw_bands-bands.result c.draw-queue.result)

-- the spans of a tick are those since the count was started, by the bands and by the dirt
pub returns-clause-all_spans : goal.returns-clause-all_spans
returns-clause-all_spans c =
    let begun = c.start_count.new.self in
    let banded = c.draw_bands-bands.new.canvas in
    let drawn = c.draw-queue.new.canvas in
    let more = risen_by-then begun.all_spans banded.all_spans drawn.all_spans begun.spans banded.spans drawn.spans c.draw_bands-bands.ensures.all_spans c.draw-queue.ensures.drawn.all_spans c.draw_bands-bands.ensures.spans_grow c.draw-queue.ensures.drawn.spans_grow in
    rw (← c.self.view_is)
    (more
    ∙ ap (λ n. risen begun.all_spans n) (omega (arith, c.start_count.ensures.spans))
    ∙ ap (λ n. risen n drawn.spans) c.start_count.ensures.all_spans)

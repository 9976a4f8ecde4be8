use Rattle.std.proofs.Common.{◌<◌, ◌+◌, pos, length, take, get_or, arith}
use Rattle.std.specs.Prelude.{Some, None}
use Rattle.geom_core.specs.Count.{screen_of}
use Rattle.geom_core.specs.Pieces.{covers}
use Rattle.geom_core.proofs.RectLemmas.{rect_of, IsEnclosed-from_inside}
use Rattle.geom_core.proofs.PieceLemmas.{covers-at, covers-take_more, total_area-take_more, HavePixels-at, AreDisjoint-at}
use Rattle.painter_core.specs.Painted.{wanted_of, colour_by}
use Rattle.painter_core.specs.Stage.{layers_of}
use Rattle.painter_core.specs.Trail.{trail, slots_from}
use Rattle.painter_core.proofs.CutLemmas.{on_screen_kept, room_for_part}
use Rattle.painter_core.proofs.PaintsLemmas.{PaintsAll-none, PaintsAll-then}
use Rattle.painter_core.proofs.SceneLemmas.{windows_few}
use Rattle.painter_core.proofs.bands.paint_parts.Goals as goal

pub loop-part-init : goal.loop-part-init
loop-part-init c =
    let layers = layers_of c.args.view.now in
    PaintsAll-none layers (Some c.args.id) None (trail 13 layers (slots_from layers None 0)) c.args.canvas.now c.requires.valid

pub paint_from-count-requires-clause-few_slots : goal.paint_from-count-requires-clause-few_slots
paint_from-count-requires-clause-few_slots c = windows_few c.args.view.now c.requires.stage.is_view

pub paint_from-count-requires-clause-filled : goal.paint_from-count-requires-clause-filled
paint_from-count-requires-clause-filled c =
    let within : c.loop-part.part-index < length c.args.parts.now = omega (arith, c.loop-part-test.true) in
    HavePixels-at c.args.parts.now c.loop-part.part-index (rect_of (pos 0) (pos 0) 0 0) c.requires.filled within

pub paint_from-count-requires-clause-on_screen : goal.paint_from-count-requires-clause-on_screen
paint_from-count-requires-clause-on_screen c =
    let layers = layers_of c.args.view.now in
    let way = trail 13 layers (slots_from layers None 0) in
    let parts = c.args.parts.now in
    let i = c.loop-part.part-index in
    let old = c.args.canvas.now in
    let zeros = rect_of (pos 0) (pos 0) 0 0 in
    let within : i < length parts = omega (arith, c.loop-part-test.true) in
    let part = get_or parts i zeros in
    let on = IsEnclosed-from_inside part (screen_of old.width old.height) (HavePixels-at parts i zeros c.requires.filled within) (λ x y e. c.requires.on_screen x y (covers-at parts i zeros x y within e)) in
    on_screen_kept (wanted_of (Some c.args.id) None way (covers (take i parts))) (colour_by layers None way) c.loop-part.count old c.loop-part.canvas part c.loop-part.invariant.painted on

pub paint_from-count-requires-clause-count_fits : goal.paint_from-count-requires-clause-count_fits
paint_from-count-requires-clause-count_fits c =
    let parts = c.args.parts.now in
    let i = c.loop-part.part-index in
    let within : i < length parts = omega (arith, c.loop-part-test.true) in
    omega (arith, c.requires.count_fits, room_for_part parts i (rect_of (pos 0) (pos 0) 0 0) within, c.loop-part.invariant.few, c.loop-part.invariant.painted.writes)

pub loop-part-preserved : goal.loop-part-preserved
loop-part-preserved c =
    let layers = layers_of c.args.view.now in
    let way = trail 13 layers (slots_from layers None 0) in
    let parts = c.args.parts.now in
    let i = c.loop-part.part-index in
    let zeros = rect_of (pos 0) (pos 0) 0 0 in
    let within : i < length parts = omega (arith, c.loop-part-test.true) in
    PaintsAll-then layers (Some c.args.id) None way (take i parts) (take (i + 1) parts) (get_or parts i zeros) c.loop-part.count c.paint_from-count.result c.args.canvas.now c.loop-part.canvas c.paint_from-count.new.canvas
    c.loop-part.invariant c.paint_from-count.ensures (λ x y. covers-take_more parts i zeros x y within) (λ x y. AreDisjoint-at parts i zeros x y c.requires.disjoint within) (total_area-take_more parts i zeros within)

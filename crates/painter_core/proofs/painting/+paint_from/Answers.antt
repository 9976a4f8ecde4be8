use Rattle.std.proofs.Common.{◌<◌, ◌+◌, ◌-◌, ℤ, pos, List, [], ◌∷◌, length, take, get_or, refl, ap, ◌∙◌, arith}
use Rattle.std.specs.Prelude.{Some}
use Rattle.std.proofs.lemmas.List.{take_all}
use Rattle.canvas_core.specs.Screen.{Screen}
use Rattle.geom_core.specs.declared.rectangle.Rect.{Rect}
use Rattle.geom_core.specs.Pieces.{covers, total_area}
use Rattle.geom_core.proofs.RectLemmas.{rect_of, IsEnclosed-from_inside}
use Rattle.geom_core.proofs.PieceLemmas.{covers-at, HavePixels-at}
use Rattle.painter_core.specs.Painted.{wanted_of, colour_by}
use Rattle.painter_core.specs.Stage.{layers_of}
use Rattle.painter_core.specs.Trail.{trail, slots_from}
use Rattle.painter_core.proofs.TrailLemmas.{trail-none}
use Rattle.painter_core.proofs.StageLemmas.{few_below}
use Rattle.painter_core.proofs.RowLemmas.{IsInRange-on_screen, inside_of}
use Rattle.painter_core.proofs.PaintsLemmas.{Paints-agree, Paints-below, one_inside, HasOneTrail-below, PaintsAll-one, PaintsAll-then, Paints-whole}
use Rattle.painter_core.proofs.CutLemmas.{IsLeft-cut, shared_in_piece, shared_in_place, part_in_piece, trail-shared, trail-left, parts_make_piece, nothing_left, shared_is_piece, room_for_part, covers-part, part_apart, total_area-part, area_of-inside, on_screen_inside, on_screen_kept}
use Rattle.painter_core.proofs.painting.+paint_from.Goals as goal

pub returns-then-depth-eq0 : goal.returns-then-depth-eq0
returns-then-depth-eq0 t c =
    let layers = layers_of c.args.view.now in
    let slots = slots_from layers c.args.under c.args.from in
    Paints-agree layers c.args.only c.args.under (λ x y. []) (trail c.args.depth layers slots) c.args.piece c.fill_wanted.result c.args.canvas.now c.fill_wanted.new.canvas c.fill_wanted.ensures
    (λ x y e. ap (λ n. trail n layers slots x y) c.if-depth-eq0.true ∙ trail-none layers slots x y)

pub returns-in-None : goal.returns-in-None
returns-in-None t c =
    let layers = layers_of c.args.view.now in
    let slots = slots_from layers c.args.under c.args.from in
    Paints-agree layers c.args.only c.args.under (λ x y. []) (trail c.args.depth layers slots) c.args.piece c.fill_wanted-in-None.result c.args.canvas.now c.fill_wanted-in-None.new.canvas c.fill_wanted-in-None.ensures
    (λ x y e. c.in-None.ensures.found c.args.depth x y e)

pub paint_from-count-requires : goal.paint_from-count-requires
paint_from-count-requires t c =
    let layers = layers_of c.args.view.now in
    let piece = c.args.piece in
    let old = c.args.canvas.now in
    let at = c.in-Some.found in
    let found = c.in-Some.ensures.found in
    let inside = shared_in_piece layers c.args.under c.args.from piece at.slot at.id at.shared found in
    let on = on_screen_inside at.shared piece old found.filled inside c.requires.on_screen in
    let few = few_below c.args.view.now at.id in
    let room = area_of-inside at.shared piece (IsEnclosed-from_inside at.shared piece found.filled inside) in
    (omega (arith, c.decreases, few, c.if-depth-eq0.false), (c.requires.stage, (c.in-Some.ensures.there, (shared_in_place layers c.args.under c.args.from piece at.slot at.id at.shared found, (few, (found.filled, (on, (c.requires.valid, omega (arith, c.requires.count_fits, room)))))))))

pub cut-parts-requires : goal.cut-parts-requires
cut-parts-requires t c = IsInRange-on_screen c.args.piece c.args.canvas.now c.requires.valid c.requires.on_screen

pub loop-part-init : goal.loop-part-init
loop-part-init t c =
    let layers = layers_of c.args.view.now in
    let at = c.in-Some.found in
    let way = trail (c.args.depth - 1) layers (layers.below (Some at.id)) in
    let path = trail c.args.depth layers (slots_from layers c.args.under c.args.from) in
    let through = trail-shared layers c.args.under c.args.depth c.args.from c.args.piece at.slot at.id at.shared (omega (arith, c.if-depth-eq0.false)) c.in-Some.ensures.found in
    record {
      all = PaintsAll-one layers c.args.only c.args.under path at.shared c.paint_from-count.result c.args.canvas.now c.paint_from-count.new.canvas
          (Paints-below layers c.args.only c.args.under at.id way path at.shared c.paint_from-count.result c.args.canvas.now c.paint_from-count.new.canvas c.paint_from-count.ensures through);
      start = λ e. refl;
    }

pub paint_from-count-requires-in-loop-part : goal.paint_from-count-requires-in-loop-part
paint_from-count-requires-in-loop-part t c =
    let layers = layers_of c.args.view.now in
    let piece = c.args.piece in
    let old = c.args.canvas.now in
    let now = c.loop-part.canvas in
    let at = c.in-Some.found in
    let found = c.in-Some.ensures.found in
    let zeros = rect_of (pos 0) (pos 0) 0 0 in
    let parts = c.as_slice-part-items.result.now in
    let i = c.loop-part.part-index in
    let within : i < length parts = omega arith in
    let left = IsLeft-cut layers c.args.under c.args.from piece at.slot at.id at.shared c.cut-parts.result.items parts found c.cut-parts.ensures.pixels c.cut-parts.ensures.disjoint c.cut-parts.ensures.filled c.cut-parts.ensures.areas c.as_slice-part-items.ensures.value in
    let part = get_or parts i zeros in
    let filled = HavePixels-at parts i zeros left.filled within in
    let inside = part_in_piece piece at.shared parts i zeros left within in
    let all = c.loop-part.invariant.all in
    let path = trail c.args.depth layers (slots_from layers c.args.under c.args.from) in
    let on = on_screen_kept (wanted_of c.args.only c.args.under path (covers (at.shared ∷ take i parts))) (colour_by layers c.args.under path) c.loop-part.count old now part all.painted (on_screen_inside part piece old filled inside c.requires.on_screen) in
    let room = room_for_part parts i zeros within in
    (omega (arith, c.decreases, found.least, found.within), (c.requires.stage, (c.requires.there, (inside_of layers c.args.under part piece inside c.requires.inside, (c.requires.few_slots, (filled, (on, (all.painted.valid, omega (arith, c.requires.count_fits, room, left.areas, all.few, all.painted.writes)))))))))

pub loop-part-preserved : goal.loop-part-preserved
loop-part-preserved t c =
    let layers = layers_of c.args.view.now in
    let only = c.args.only in
    let under = c.args.under in
    let piece = c.args.piece in
    let old = c.args.canvas.now in
    let now = c.loop-part.canvas in
    let new = c.paint_from-count-in-loop-part.new.canvas in
    let at = c.in-Some.found in
    let found = c.in-Some.ensures.found in
    let zeros = rect_of (pos 0) (pos 0) 0 0 in
    let parts = c.as_slice-part-items.result.now in
    let i = c.loop-part.part-index in
    let within : i < length parts = omega arith in
    let left = IsLeft-cut layers under c.args.from piece at.slot at.id at.shared c.cut-parts.result.items parts found c.cut-parts.ensures.pixels c.cut-parts.ensures.disjoint c.cut-parts.ensures.filled c.cut-parts.ensures.areas c.as_slice-part-items.ensures.value in
    let part = get_or parts i zeros in
    let way = trail c.args.depth layers (slots_from layers under (at.slot + 1)) in
    let path = trail c.args.depth layers (slots_from layers under c.args.from) in
    let more = c.paint_from-count-in-loop-part.result in
    let one = Paints-agree layers only under way path part more now new c.paint_from-count-in-loop-part.ensures (λ x y e. trail-left layers under c.args.depth c.args.from piece at.slot at.id at.shared parts found left x y (covers-at parts i zeros x y within e)) in
    record {
      all = PaintsAll-then layers only under path (at.shared ∷ take i parts) (at.shared ∷ take (i + 1) parts) part c.loop-part.count more old now new c.loop-part.invariant.all one
          (λ x y. covers-part at.shared parts i zeros x y within) (λ x y. part_apart piece at.shared parts i zeros x y left within) (total_area-part at.shared parts i zeros within);
      start = λ e. absurd (omega arith);
    }

pub returns-after-loop-part : goal.returns-after-loop-part
returns-after-loop-part t c =
    let layers = layers_of c.args.view.now in
    let only = c.args.only in
    let under = c.args.under in
    let piece = c.args.piece in
    let old = c.args.canvas.now in
    let mid = c.paint_from-count.new.canvas in
    let new = c.loop-part.canvas in
    let at = c.in-Some.found in
    let found = c.in-Some.ensures.found in
    let parts = c.as_slice-part-items.result.now in
    let i = c.loop-part.part-index in
    let some : 0 < c.args.depth = omega (arith, c.if-depth-eq0.false) in
    let left = IsLeft-cut layers under c.args.from piece at.slot at.id at.shared c.cut-parts.result.items parts found c.cut-parts.ensures.pixels c.cut-parts.ensures.disjoint c.cut-parts.ensures.filled c.cut-parts.ensures.areas c.as_slice-part-items.ensures.value in
    let way = trail (c.args.depth - 1) layers (layers.below (Some at.id)) in
    let path = trail c.args.depth layers (slots_from layers under c.args.from) in
    let through = trail-shared layers under c.args.depth c.args.from piece at.slot at.id at.shared some found in
    let all = take_all i parts (omega arith) in
    let whole = λ (x y : ℤ). ap (λ (rs : List Rect). covers (at.shared ∷ rs) x y) all ∙ parts_make_piece layers under c.args.from piece at.slot at.id at.shared parts found left x y in
    let areas = ap (λ (rs : List Rect). total_area (at.shared ∷ rs)) all in
    Paints-whole layers only under path (at.shared ∷ take i parts) piece c.loop-part.count old new c.loop-part.invariant.all whole (omega (arith, areas, left.areas))
    (λ e one.
    let none = nothing_left layers under c.args.depth c.args.from piece at.slot at.id at.shared parts some found left one in
    let is = shared_is_piece layers under c.args.from piece at.slot at.id at.shared parts found left none in
    let kept = ap (λ (s : Screen). s.spans) (c.loop-part.invariant.start (omega arith)) in
    let spans = c.paint_from-count.ensures.at_once e (HasOneTrail-below way path at.shared at.id through (one_inside path at.shared piece (shared_in_piece layers under c.args.from piece at.slot at.id at.shared found) one)) in
    let high = ap (λ (r : Rect). r.h) is in
    omega (arith, kept, spans, high))

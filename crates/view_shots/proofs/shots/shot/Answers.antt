use Rattle.std.proofs.Common.{◌≡◌, ◌∙◌, ◌<◌, ℕ, nat_eq, get_or, take, length, sym, ap, arith, subst}
use Rattle.std.specs.List.{list_any}
use Rattle.std.proofs.lemmas.Option.{get_or_from_slice_get}
use Rattle.scene_core.specs.View.{scene_of}
use Rattle.view_shots.specs.Spots.{ArePut}
use Rattle.scene_core.proofs.Tops.{among-at, under-window}
use Rattle.view_shots.proofs.ShotSteps.{not-before, numbers-shot, shot-more, shot-all}
use Rattle.view_shots.proofs.shots.shot.Goals as goal

pub put_window-requires-clause-absent : goal.put_window-requires-clause-absent
put_window-requires-clause-absent c =
    let windows = c.args.view.now.stack.now in
    let index = c.loop-index.index in
    let within : index < length windows = omega (arith, c.loop-index-test.true, c.len-index-end.ensures.count) in
    let at : get_or windows index 0 ≡ c.unwrap.result = get_or_from_slice_get windows index c.unwrap.result 0 (sym c.at.ensures.key ∙ c.unwrap.ensures) in
    ap (list_any (nat_eq c.unwrap.result)) (numbers-shot c.args.view.now.tree.now windows index c.loop-index.out c.loop-index.invariant.order)
    ∙ ap (λ (n : ℕ). list_any (nat_eq n) (take index windows)) (sym at)
    ∙ not-before windows index c.requires.view.windows.once.distinct within

pub put_shown-requires-clause-under : goal.put_shown-requires-clause-under
put_shown-requires-clause-under c =
    let windows = c.args.view.now.stack.now in
    let within : c.loop-index.index < length windows = omega (arith, c.loop-index-test.true, c.len-index-end.ensures.count) in
    under-window c.args.view.now.tree.now windows c.unwrap.result c.requires.view.valid c.requires.view.windows (among-at windows c.loop-index.index c.unwrap.result within (sym c.at.ensures.key ∙ c.unwrap.ensures))

pub loop-index-preserved : goal.loop-index-preserved
loop-index-preserved c =
    let w = c.args.view.now.tree.now in
    let windows = c.args.view.now.stack.now in
    let scene = scene_of c.args.view.now in
    let within : c.loop-index.index < length windows = omega (arith, c.loop-index-test.true, c.len-index-end.ensures.count) in
    let at : get_or windows c.loop-index.index 0 ≡ c.unwrap.result = get_or_from_slice_get windows c.loop-index.index c.unwrap.result 0 (sym c.at.ensures.key ∙ c.unwrap.ensures) in
    shot-more w windows scene c.loop-index.index c.unwrap.result c.window_spot-spot.result.place c.loop-index.out c.put_window.new.self c.put_shown.new.out within at c.window_spot-spot.ensures.place c.loop-index.invariant
    c.put_window.ensures.windows c.put_window.ensures.spots
    (subst (λ (n : ℕ). ArePut n w windows scene c.unwrap.result c.put_window.new.self c.put_shown.new.out) c.most_levels.ensures c.put_shown.ensures)

pub returns-clause-shot : goal.returns-clause-shot
returns-clause-shot c =
    let view = c.args.view.now in
    shot-all view.tree.now view.stack.now view.pointer.now view.width view.height c.loop-index.index c.loop-index.out c.requires.view.valid c.loop-index.invariant (omega (arith, c.loop-index-test.false, c.len-index-end.ensures.count))

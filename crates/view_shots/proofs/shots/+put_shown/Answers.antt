use Rattle.std.proofs.Common.{◌≡◌, ◌-◌, ◌∙◌, ℕ, List, Some, get_or, sym, arith, subst}
use Rattle.widget_model.specs.Widgets.{IsLive}
use Rattle.scene_core.specs.Children.{AreChildren}
use Rattle.scene_core.specs.View.{scene_of}
use Rattle.scene_core.proofs.LeastSteps.{child-live, deep-child}
use Rattle.scene_core.proofs.Measures.{deep-some, deep-suc}
use Rattle.scene_core.proofs.Roots.{rooted-live}
use Rattle.scene_core.proofs.Tops.{under-child, window-among}
use Rattle.view_shots.proofs.ShotSteps.{number-low, under-shown, put-own, put-child, put-all}
use Rattle.view_shots.proofs.shots.+put_shown.Goals as goal

pub put_spot-requires-clause-key : goal.put_spot-requires-clause-key
put_spot-requires-clause-key t c =
    let w = c.args.view.now.tree.now in
    number-low w c.args.id.key c.requires.view.valid (rooted-live w c.args.id.key c.args.spot.window c.requires.spot.window)

pub put_spot-requires-clause-window : goal.put_spot-requires-clause-window
put_spot-requires-clause-window t c =
    let w = c.args.view.now.tree.now in
    let window = window-among w c.args.view.now.stack.now c.requires.under.window c.requires.view.windows c.requires.under.among in
    let same : c.requires.under.window ≡ c.args.spot.window = let e : Some c.requires.under.window ≡ Some c.args.spot.window = sym c.requires.under.root ∙ c.requires.spot.window in cc in
    number-low w c.args.spot.window c.requires.view.valid (subst (λ (n : ℕ). IsLive w n) same window.live)

pub loop-key-init : goal.loop-key-init
loop-key-init t c =
    let w = c.args.view.now.tree.now in
    let windows = c.args.view.now.stack.now in
    let low = number-low w c.args.id.key c.requires.view.valid (rooted-live w c.args.id.key c.args.spot.window c.requires.spot.window) in
    put-own w windows (scene_of c.args.view.now) c.args.most c.args.id.key c.as_slice-key-items.result.now c.args.out.now c.put_spot.new.self c.args.spot
    (record { shown = under-shown w windows c.args.id.key c.requires.under; is = c.requires.spot }) c.requires.spots low c.put_spot.ensures.spots c.put_spot.ensures.windows c.put_spot.ensures.valid

pub overflow_sub-most : goal.overflow_sub-most
overflow_sub-most t c =
    let w = c.args.view.now.tree.now in
    deep-some w c.args.most c.args.id.key c.requires.view.valid (rooted-live w c.args.id.key c.args.spot.window c.requires.spot.window) c.requires.deep

pub put_shown-requires : goal.put_shown-requires
put_shown-requires t c =
    let w = c.args.view.now.tree.now in
    let windows = c.args.view.now.stack.now in
    let kids : AreChildren w c.args.id.key c.as_slice-key-items.result.now = subst (λ (xs : List ℕ). AreChildren w c.args.id.key xs) (sym c.as_slice-key-items.ensures.value) c.child_keys-keys.ensures.children in
    let parent = kids.each c.loop-key.key-index 0 c.loop-key-test.true in
    let kid = get_or c.as_slice-key-items.result.now c.loop-key.key-index 0 in
    let live = rooted-live w c.args.id.key c.args.spot.window c.requires.spot.window in
    let more = deep-some w c.args.most c.args.id.key c.requires.view.valid live c.requires.deep in
    let kid_live = child-live w c.args.id.key kid c.requires.view.valid parent in
    let deep = deep-child w (c.args.most - 1) c.args.id.key kid c.requires.view.valid (deep-suc w c.args.most c.args.id.key more c.requires.deep) kid_live parent in
    (omega (arith, more), (c.requires.view, (c.requires.kept, (under-child w windows c.args.id.key kid c.requires.view.valid live parent c.requires.under, (deep, (c.child_spot-below.ensures, c.loop-key.invariant.spots))))))

pub loop-key-preserved : goal.loop-key-preserved
loop-key-preserved t c =
    put-child c.args.view.now.tree.now c.args.view.now.stack.now (scene_of c.args.view.now) c.args.most c.args.id.key c.loop-key.key-index c.as_slice-key-items.result.now c.args.out.now c.loop-key.out c.put_shown.new.out c.loop-key.invariant c.put_shown.ensures

pub returns : goal.returns
returns t c =
    let w = c.args.view.now.tree.now in
    let kids : AreChildren w c.args.id.key c.as_slice-key-items.result.now = subst (λ (xs : List ℕ). AreChildren w c.args.id.key xs) (sym c.as_slice-key-items.ensures.value) c.child_keys-keys.ensures.children in
    put-all w c.args.view.now.stack.now (scene_of c.args.view.now) c.args.most c.args.id.key c.loop-key.key-index c.as_slice-key-items.result.now c.args.out.now c.loop-key.out kids c.loop-key.invariant c.loop-key-test.false

use Rattle.std.proofs.Common.{◌≡◌, ◌∙◌, ℕ, List, get_or, sym, ap, arith, subst, true, w32, below_more, refl, to_z, of_z, ℤ}
use Rattle.geom_core.specs.Rect.{in_rect}
use Rattle.widget_model.specs.Keys.{key_of}
use Rattle.widget_model.specs.Widgets.{rows_of}
use Rattle.scene_model.specs.Placing.{place_in}
use Rattle.scene_model.specs.Showing.{shows_at}
use Rattle.std.proofs.lemmas.Int.{to_z-of_z}
use Rattle.scene_core.specs.Children.{AreChildren, row_for}
use Rattle.scene_core.specs.View.{scene_of}
use Rattle.scene_core.proofs.LeastSteps.{child-live}
use Rattle.scene_core.proofs.Tops.{kept-place, under-child, child-none, child-shown, child-found}
use Rattle.scene_core.proofs.top.child_at.Goals as goal

pub holds_pixel-requires-clause-kept : goal.holds_pixel-requires-clause-kept
holds_pixel-requires-clause-kept c =
    let w = c.args.view.now.tree.now in
    let kids : AreChildren w c.args.id.key c.as_slice-key-items.result.now = subst (λ (xs : List ℕ). AreChildren w c.args.id.key xs) (sym c.as_slice-key-items.ensures.value) c.child_keys-keys.ensures.children in
    let parent = kids.each c.loop-key.key-index 0 c.loop-key-test.true in
    let kid = get_or c.as_slice-key-items.result.now c.loop-key.key-index 0 in
    kept-place w c.args.view.now.stack.now kid c.requires.kept (child-live w c.args.id.key kid c.requires.view.valid parent)
    (under-child w c.args.view.now.stack.now c.args.id.key kid c.requires.view.valid c.requires.live parent c.requires.under)

pub loop-key-init : goal.loop-key-init
loop-key-init c = λ k less. absurd (omega arith)

pub loop-key-preserved : goal.loop-key-preserved
loop-key-preserved c = below_more _ _ c.loop-key.invariant (sym c.holds_pixel.ensures ∙ c.if-holds_pixel.false)

shown : (c : goal.Then-holds_pixel) → shows_at (scene_of c.args.view.now) (key_of (row_for c.args.view.now.tree.now (get_or c.as_slice-key-items.result.now c.loop-key.key-index 0))) c.args.x c.args.y ≡ true
shown c =
    let w = c.args.view.now.tree.now in
    let kids : AreChildren w c.args.id.key c.as_slice-key-items.result.now = subst (λ (xs : List ℕ). AreChildren w c.args.id.key xs) (sym c.as_slice-key-items.ensures.value) c.child_keys-keys.ensures.children in
    let parent = kids.each c.loop-key.key-index 0 c.loop-key-test.true in
    let kid = get_or c.as_slice-key-items.result.now c.loop-key.key-index 0 in
    let px : to_z w32 (of_z w32 c.args.x) ≡ c.args.x = to_z-of_z w32 c.args.x c.ranges.x in
    let py : to_z w32 (of_z w32 c.args.y) ≡ c.args.y = to_z-of_z w32 c.args.y c.ranges.y in
    let place = place_in (rows_of w) (row_for w kid) in
    let h : in_rect place c.args.x c.args.y ≡ true = ap (λ (n : ℤ). in_rect place n c.args.y) (sym px) ∙ ap (λ (n : ℤ). in_rect place (to_z w32 (of_z w32 c.args.x)) n) (sym py) ∙ sym c.holds_pixel.ensures ∙ c.if-holds_pixel.true in
    child-shown (scene_of c.args.view.now) w c.args.id.key kid c.args.x c.args.y refl c.requires.view.valid parent c.requires.shown h

pub returns-then-holds_pixel-clause-child : goal.returns-then-holds_pixel-clause-child
returns-then-holds_pixel-clause-child c =
    let w = c.args.view.now.tree.now in
    let kids : AreChildren w c.args.id.key c.as_slice-key-items.result.now = subst (λ (xs : List ℕ). AreChildren w c.args.id.key xs) (sym c.as_slice-key-items.ensures.value) c.child_keys-keys.ensures.children in
    let parent = kids.each c.loop-key.key-index 0 c.loop-key-test.true in
    let kid = get_or c.as_slice-key-items.result.now c.loop-key.key-index 0 in
    sym (child-found (scene_of c.args.view.now) w c.args.id.key kid c.args.x c.args.y refl c.requires.view.valid c.requires.live parent (shown c))

pub returns-then-holds_pixel-clause-shown : goal.returns-then-holds_pixel-clause-shown
returns-then-holds_pixel-clause-shown c = shown c

pub returns-clause-child : goal.returns-clause-child
returns-clause-child c =
    let w = c.args.view.now.tree.now in
    let kids : AreChildren w c.args.id.key c.as_slice-key-items.result.now = subst (λ (xs : List ℕ). AreChildren w c.args.id.key xs) (sym c.as_slice-key-items.ensures.value) c.child_keys-keys.ensures.children in
    let px : to_z w32 (of_z w32 c.args.x) ≡ c.args.x = to_z-of_z w32 c.args.x c.ranges.x in
    let py : to_z w32 (of_z w32 c.args.y) ≡ c.args.y = to_z-of_z w32 c.args.y c.ranges.y in
    sym (child-none (scene_of c.args.view.now) w c.args.id.key c.as_slice-key-items.result.now c.args.x c.args.y refl c.requires.view.valid c.requires.live kids
    (λ k less.
    let place = place_in (rows_of w) (row_for w (get_or c.as_slice-key-items.result.now k 0)) in
    ap (λ (n : ℤ). in_rect place n c.args.y) (sym px) ∙ ap (λ (n : ℤ). in_rect place (to_z w32 (of_z w32 c.args.x)) n) (sym py) ∙ c.loop-key.invariant k (omega (arith, c.loop-key-test.false))))

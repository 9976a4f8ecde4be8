use Rattle.std.proofs.Common.{◌≡◌, ◌∙◌, ℕ, ℤ, List, ap, to_z, of_z, w32}
use Rattle.std.proofs.lemmas.Int.{to_z-of_z}
use Rattle.widget_model.specs.Keys.{key_of}
use Rattle.scene_model.specs.Showing.{lowest_in, window_at}
use Rattle.scene_core.specs.Children.{row_for}
use Rattle.scene_core.specs.View.{scene_of}
use Rattle.scene_core.proofs.Tops.{under-window, top-found, top-none}
use Rattle.scene_core.proofs.top.top_at.Goals as goal

pub lowest-requires-clause-under : goal.lowest-requires-clause-under
lowest-requires-clause-under c = under-window c.args.view.now.tree.now c.args.view.now.stack.now c.in-Some.window.key c.requires.view.valid c.requires.view.windows c.in-Some.ensures.among

pub returns-in-Some-clause-top : goal.returns-in-Some-clause-top
returns-in-Some-clause-top c =
    let w = c.args.view.now.tree.now in
    let scene = scene_of c.args.view.now in
    let px : to_z w32 (of_z w32 c.args.x) ≡ c.args.x = to_z-of_z w32 c.args.x c.ranges.x in
    let py : to_z w32 (of_z w32 c.args.y) ≡ c.args.y = to_z-of_z w32 c.args.y c.ranges.y in
    let key = key_of (row_for w c.in-Some.window.key) in
    let low : ℤ → ℤ → ℕ × List ℕ = λ x y. lowest_in c.most_levels.result scene x y key in
    top-found scene w c.args.x c.args.y c.lowest.result.key c.in-Some.window.key c.most_levels.result c.lowest.ensures.live c.most_levels.ensures
    (c.lowest.ensures.lowest ∙ ap (λ (n : ℤ). low (to_z w32 (of_z w32 c.args.x)) n) py ∙ ap (λ (n : ℤ). low n c.args.y) px)
    (c.in-Some.ensures.window ∙ ap (λ (n : ℤ). window_at scene (to_z w32 (of_z w32 c.args.x)) n) py ∙ ap (λ (n : ℤ). window_at scene n c.args.y) px)

pub returns-in-None-clause-top : goal.returns-in-None-clause-top
returns-in-None-clause-top c =
    let scene = scene_of c.args.view.now in
    let px : to_z w32 (of_z w32 c.args.x) ≡ c.args.x = to_z-of_z w32 c.args.x c.ranges.x in
    let py : to_z w32 (of_z w32 c.args.y) ≡ c.args.y = to_z-of_z w32 c.args.y c.ranges.y in
    top-none scene c.args.x c.args.y (c.in-None.ensures.window ∙ ap (λ (n : ℤ). window_at scene (to_z w32 (of_z w32 c.args.x)) n) py ∙ ap (λ (n : ℤ). window_at scene n c.args.y) px)

use Rattle.std.proofs.Common.{◌≡◌, ◌∙◌, ◌<◌, ℕ, ℤ, List, Option, Some, length, drop, slice_get, sym, ap, arith, refl, true, false, to_z, of_z, w32, is_some}
use Rattle.std.specs.List.{find}
use Rattle.std.proofs.lemmas.Int.{to_z-of_z}
use Rattle.std.proofs.lemmas.Option.{slice_get-get_or}
use Rattle.geom_core.specs.Rect.{in_rect}
use Rattle.widget_model.specs.Keys.{key_of}
use Rattle.widget_model.specs.Widgets.{rows_of}
use Rattle.scene_model.specs.Placing.{place_in}
use Rattle.scene_model.specs.Showing.{shows_at, on_screen}
use Rattle.scene_core.specs.Children.{row_for}
use Rattle.scene_core.specs.View.{scene_of, keys_of}
use Rattle.scene_core.proofs.Tops.{find-off, among-at, window-among, under-window, kept-place, window-shown, window-hidden, first-here, first-later}
use Rattle.scene_core.proofs.top.top_window.Goals as goal

pub returns-then-not-is_on_screen-clause-window : goal.returns-then-not-is_on_screen-clause-window
returns-then-not-is_on_screen-clause-window c =
    let px : to_z w32 (of_z w32 c.args.x) ≡ c.args.x = to_z-of_z w32 c.args.x c.ranges.x in
    let py : to_z w32 (of_z w32 c.args.y) ≡ c.args.y = to_z-of_z w32 c.args.y c.ranges.y in
    let scene = scene_of c.args.view.now in
    let off : on_screen scene c.args.x c.args.y ≡ false =
    ap (λ (n : ℤ). on_screen scene n c.args.y) (sym px) ∙ ap (λ (n : ℤ). on_screen scene (to_z w32 (of_z w32 c.args.x)) n) (sym py) ∙ sym c.is_on_screen.ensures ∙ c.if-not-is_on_screen.true in
    sym (find-off scene c.args.view.now.tree.now c.args.view.now.stack.now c.args.x c.args.y refl c.requires.view.valid off c.requires.view.windows.each)

pub unwrap-requires : goal.unwrap-requires
unwrap-requires c = ap is_some (c.at.ensures.key ∙ slice_get-get_or c.args.view.now.stack.now c.loop-index.index 0 (omega (arith, c.loop-index-test.true, c.len-index-end.ensures.count)))

within : (c : goal.After-unwrap) → c.loop-index.index < length c.args.view.now.stack.now
within c = omega (arith, c.loop-index-test.true, c.len-index-end.ensures.count)

there : (c : goal.After-unwrap) → slice_get c.args.view.now.stack.now c.loop-index.index ≡ Some c.unwrap.result
there c = sym c.at.ensures.key ∙ c.unwrap.ensures

pub holds_pixel-requires-clause-live : goal.holds_pixel-requires-clause-live
holds_pixel-requires-clause-live c = (window-among c.args.view.now.tree.now c.args.view.now.stack.now c.unwrap.result c.requires.view.windows (among-at c.args.view.now.stack.now c.loop-index.index c.unwrap.result (within c) (there c))).live

pub holds_pixel-requires-clause-kept : goal.holds_pixel-requires-clause-kept
holds_pixel-requires-clause-kept c =
    let among = among-at c.args.view.now.stack.now c.loop-index.index c.unwrap.result (within c) (there c) in
    let window = window-among c.args.view.now.tree.now c.args.view.now.stack.now c.unwrap.result c.requires.view.windows among in
    kept-place c.args.view.now.tree.now c.args.view.now.stack.now c.unwrap.result c.requires.kept window.live
    (under-window c.args.view.now.tree.now c.args.view.now.stack.now c.unwrap.result c.requires.view.valid c.requires.view.windows among)

less : (c : goal.Then-holds_pixel) → c.loop-index.index < length c.args.view.now.stack.now
less c = omega (arith, c.loop-index-test.true, c.len-index-end.ensures.count)

at : (c : goal.Then-holds_pixel) → slice_get c.args.view.now.stack.now c.loop-index.index ≡ Some c.unwrap.result
at c = sym c.at.ensures.key ∙ c.unwrap.ensures

shown : (c : goal.Then-holds_pixel) → shows_at (scene_of c.args.view.now) (key_of (row_for c.args.view.now.tree.now c.unwrap.result)) c.args.x c.args.y ≡ true
shown c =
    let w = c.args.view.now.tree.now in
    let scene = scene_of c.args.view.now in
    let px : to_z w32 (of_z w32 c.args.x) ≡ c.args.x = to_z-of_z w32 c.args.x c.ranges.x in
    let py : to_z w32 (of_z w32 c.args.y) ≡ c.args.y = to_z-of_z w32 c.args.y c.ranges.y in
    let among = among-at c.args.view.now.stack.now c.loop-index.index c.unwrap.result (less c) (at c) in
    let window = window-among w c.args.view.now.stack.now c.unwrap.result c.requires.view.windows among in
    let place = place_in (rows_of w) (row_for w c.unwrap.result) in
    let holds : in_rect place c.args.x c.args.y ≡ true = ap (λ (n : ℤ). in_rect place n c.args.y) (sym px) ∙ ap (λ (n : ℤ). in_rect place (to_z w32 (of_z w32 c.args.x)) n) (sym py) ∙ sym c.holds_pixel.ensures ∙ c.if-holds_pixel.true in
    let on : on_screen scene c.args.x c.args.y ≡ true =
    ap (λ (n : ℤ). on_screen scene n c.args.y) (sym px) ∙ ap (λ (n : ℤ). on_screen scene (to_z w32 (of_z w32 c.args.x)) n) (sym py) ∙ sym c.is_on_screen.ensures ∙ c.if-not-is_on_screen.false in
    window-shown scene w c.unwrap.result c.args.x c.args.y refl c.requires.view.valid window holds on

pub returns-then-holds_pixel-clause-shown : goal.returns-then-holds_pixel-clause-shown
returns-then-holds_pixel-clause-shown c = shown c

pub returns-then-holds_pixel-clause-among : goal.returns-then-holds_pixel-clause-among
returns-then-holds_pixel-clause-among c = among-at c.args.view.now.stack.now c.loop-index.index c.unwrap.result (less c) (at c)

-- the first one from here on, with the pixel as the loop has it
pub returns-then-holds_pixel-clause-window : goal.returns-then-holds_pixel-clause-window
returns-then-holds_pixel-clause-window c =
    let w = c.args.view.now.tree.now in
    let windows = c.args.view.now.stack.now in
    let scene = scene_of c.args.view.now in
    let px : to_z w32 (of_z w32 c.args.x) ≡ c.args.x = to_z-of_z w32 c.args.x c.ranges.x in
    let py : to_z w32 (of_z w32 c.args.y) ≡ c.args.y = to_z-of_z w32 c.args.y c.ranges.y in
    let among = among-at windows c.loop-index.index c.unwrap.result (less c) (at c) in
    let window = window-among w windows c.unwrap.result c.requires.view.windows among in
    let found : ℤ → ℤ → List ℕ → Option (ℕ × List ℕ) = λ x y ids. find (λ (key : ℕ × List ℕ). shows_at scene key x y) (keys_of w.entries ids) in
    let whole : found c.args.x c.args.y windows ≡ found c.args.x c.args.y (drop c.loop-index.index windows) =
    ap (λ (n : ℤ). found n c.args.y windows) (sym px) ∙ ap (λ (n : ℤ). found (to_z w32 (of_z w32 c.args.x)) n windows) (sym py)
    ∙ c.loop-index.invariant
    ∙ ap (λ (n : ℤ). found (to_z w32 (of_z w32 c.args.x)) n (drop c.loop-index.index windows)) py ∙ ap (λ (n : ℤ). found n c.args.y (drop c.loop-index.index windows)) px in
    sym (whole ∙ first-here (λ (key : ℕ × List ℕ). shows_at scene key c.args.x c.args.y) w windows c.loop-index.index c.unwrap.result (less c) (at c) window.live (shown c))

pub loop-index-preserved : goal.loop-index-preserved
loop-index-preserved c =
    let w = c.args.view.now.tree.now in
    let windows = c.args.view.now.stack.now in
    let scene = scene_of c.args.view.now in
    let x = to_z w32 (of_z w32 c.args.x) in
    let y = to_z w32 (of_z w32 c.args.y) in
    let less : c.loop-index.index < length windows = omega (arith, c.loop-index-test.true, c.len-index-end.ensures.count) in
    let at : slice_get windows c.loop-index.index ≡ Some c.unwrap.result = sym c.at.ensures.key ∙ c.unwrap.ensures in
    let window = window-among w windows c.unwrap.result c.requires.view.windows (among-at windows c.loop-index.index c.unwrap.result less at) in
    c.loop-index.invariant
    ∙ first-later (λ (key : ℕ × List ℕ). shows_at scene key x y) w windows c.loop-index.index c.unwrap.result less at window.live
    (window-hidden scene w c.unwrap.result x y refl c.requires.view.valid window (sym c.holds_pixel.ensures ∙ c.if-holds_pixel.false))

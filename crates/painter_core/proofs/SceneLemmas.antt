-- From trails to the scene: the pixels painted by trails have the scene's colours, and one top is one trail.
use Rattle.std.proofs.Common.{◌≡◌, ℕ, suc, ◌<◌, ◌≤◌, ℤ, pos, Bool, true, false, cond, ◌&&◌, List, length, get_or, refl, sym, ap, ◌∙◌, ◌⊎◌, inl, inr, arith}
use Rattle.std.specs.Prelude.{Option, Some, None}
use Rattle.std.proofs.lemmas.Bool.Decides.{nat_tests}
use Rattle.kind_core.specs.declared.kinds.Kind.TheVariants.{Window}
use Rattle.canvas_core.specs.Screen.{Screen, pixel_of}
use Rattle.geom_core.specs.declared.rectangle.Rect.{Rect}
use Rattle.geom_core.specs.Rect.{in_rect, area_of, IsInside}
use Rattle.geom_core.specs.Count.{screen_of}
use Rattle.geom_core.proofs.CountLemmas.{count_in-same, count_in-rect}
use Rattle.widget_model.specs.Keys.{key_of}
use Rattle.widget_model.specs.Widgets.{row_kind}
use Rattle.widget_model.specs.Trees.{most_levels}
use Rattle.widget_model.specs.Relatives.{parent_id}
use Rattle.widget_model.specs.Forest.{IsWidgets}
use Rattle.scene_model.specs.Showing.{on_screen, top_of}
use Rattle.scene_model.specs.Colours.{colour_at}
use Rattle.scene_core.specs.declared.view.View.{View}
use Rattle.scene_core.specs.View.{scene_of, IsView}
use Rattle.painter_core.specs.Trail.{trail, slots_from, last_of, is_wanted}
use Rattle.painter_core.specs.Painted.{Painted, Paints, HasOneTrail, wanted_of, colour_by}
use Rattle.painter_core.specs.Painting.{ShowsScene, HasOneTop}
use Rattle.painter_core.specs.Stage.{layers_of}
use Rattle.painter_core.proofs.StageLemmas.{length-windows, length-children, window-slot, child-slot}
use Rattle.tree_core.proofs.Listed.{All-at}
use Rattle.scene_core.proofs.OneNumber.{number_of-key}
use Rattle.painter_core.proofs.RootLemmas.{parent-window, parent-child}
use Rattle.painter_core.proofs.ChainLemmas.{IsChain, trail-chain, chains_same}
use Rattle.painter_core.proofs.TopLemmas.{trail_of, IsTop, HasNoTop, tops, colour-same}

-- the whole trail is what the painter begins with
abbrev pub first_way : View → ℤ → ℤ → List ℕ
first_way view = trail 13 (layers_of view) (slots_from (layers_of view) None 0)

pub first_way-whole : (view : View) (x y : ℤ) → first_way view x y ≡ trail_of view x y
unfolding most_levels
first_way-whole view x y = refl

pub windows_few : (view : View) → IsView view → length ((layers_of view).below None) ≤ 256
windows_few view is = omega (arith, length-windows view, is.windows.once.few)

-- each widget in a slot hangs in the one below which the slot is
above : (view : View) (under : Option ℕ) (slot id : ℕ) → IsWidgets view.tree.now → IsView view → slot < length ((layers_of view).below under) → get_or ((layers_of view).below under) slot None ≡ Some id → parent_id view.tree.now id ≡ under
above view None slot id valid is within at =
    parent-window view.tree.now id valid (All-at (λ (n : ℕ). row_kind view.tree.now.entries n ≡ Some Window) view.stack.now slot id is.windows.each (sym (window-slot view slot) ∙ at))
above view (Some upper) slot id valid is within at =
    parent-child view.tree.now upper slot id valid (sym (child-slot view upper slot (omega (arith, within, length-children view upper))) ∙ at)

chain : (view : View) (x y : ℤ) → IsWidgets view.tree.now → IsView view → IsChain (parent_id view.tree.now) None (trail_of view x y)
chain view x y valid is = trail-chain (suc most_levels) (layers_of view) (parent_id view.tree.now) x y (λ under slot id within at. above view under slot id valid is within at) None

same_end : (view : View) (x y u v : ℤ) → IsWidgets view.tree.now → IsTop view x y ⊎ HasNoTop view x y → IsTop view u v ⊎ HasNoTop view u v → top_of (scene_of view) x y ≡ top_of (scene_of view) u v → last_of None (trail_of view x y) ≡ last_of None (trail_of view u v)
same_end view x y u v valid (inl a) (inl b) same =
    let keys : key_of a.row ≡ key_of b.row = let e = sym a.top ∙ same ∙ b.top in cc in
    a.ends ∙ ap Some (number_of-key view.tree.now a.id b.id a.row b.row valid a.there b.there keys) ∙ sym b.ends
same_end view x y u v valid (inl a) (inr b) same = absurd (let e = sym a.top ∙ same ∙ b.top in cc)
same_end view x y u v valid (inr a) (inl b) same = absurd (let e = sym a.top ∙ same ∙ b.top in cc)
same_end view x y u v valid (inr a) (inr b) same = a.ends ∙ sym b.ends

-- one top is one trail
pub one_trail : (view : View) (piece : Rect) → IsWidgets view.tree.now → IsView view → IsInside piece (screen_of view.width view.height) → HasOneTop (scene_of view) piece → HasOneTrail (first_way view) piece
one_trail view piece valid is inside one x y u v e f =
    first_way-whole view x y
    ∙ chains_same (parent_id view.tree.now) (trail_of view x y) (trail_of view u v) (chain view x y valid is) (chain view u v valid is)
    (same_end view x y u v valid (tops view x y valid is (inside x y e)) (tops view u v valid is (inside u v f)) (one x y u v e f))
    ∙ sym (first_way-whole view u v)

pub pixel_on_screen : (w h x y : ℕ) → x < w → y < h → in_rect (screen_of w h) (pos x) (pos y) ≡ true
pixel_on_screen w h x y across down = grind (arith, nat_tests)

-- pixels painted by trails have the scene's colours
pub ShowsScene-painted : (view : View) (set other : ℤ → ℤ → Bool) (n : ℕ) (old new : Screen) → IsWidgets view.tree.now → IsView view → old.width ≡ view.width → old.height ≡ view.height → ((x y : ℤ) → on_screen (scene_of view) x y ≡ true → other x y ≡ set x y) → Painted set (colour_by (layers_of view) None (first_way view)) n old new → ShowsScene other (scene_of view) old new
ShowsScene-painted view set other n old new valid is width height sets painted x y across down =
    let on = pixel_on_screen view.width view.height x y (omega (arith, across, width)) (omega (arith, down, height)) in
    let colour = colour-same view (pos x) (pos y) valid is on ∙ ap (λ (ids : List ℕ). (layers_of view).colour (last_of None ids) (pos x) (pos y)) (sym (first_way-whole view (pos x) (pos y))) in
    painted.pixels x y across down
    ∙ ap (λ (b : Bool). cond b (colour_by (layers_of view) None (first_way view) (pos x) (pos y)) (pixel_of old x y)) (sym (sets (pos x) (pos y) on))
    ∙ ap (λ (c : ℕ). cond (other (pos x) (pos y)) c (pixel_of old x y)) (sym colour)

all_wanted : (b : Bool) (top : Option ℕ) → (b && is_wanted None top) ≡ b
all_wanted true top = refl
all_wanted false top = refl

pub ShowsScene-piece : (view : View) (piece : Rect) (n : ℕ) (old new : Screen) → IsWidgets view.tree.now → IsView view → old.width ≡ view.width → old.height ≡ view.height → Paints (layers_of view) None None (first_way view) piece n old new → ShowsScene (in_rect piece) (scene_of view) old new
ShowsScene-piece view piece n old new valid is width height a =
    ShowsScene-painted view (wanted_of None None (first_way view) (in_rect piece)) (in_rect piece) n old new valid is width height (λ x y on. sym (all_wanted (in_rect piece x y) (last_of None (first_way view x y)))) a.painted

-- the whole piece was counted
pub whole_counted : (view : View) (piece : Rect) (n : ℕ) (old new : Screen) → Paints (layers_of view) None None (first_way view) piece n old new → n ≡ area_of piece
whole_counted view piece n old new a =
    a.counted piece (λ x y e. e)
    ∙ count_in-same (wanted_of None None (first_way view) (in_rect piece)) (in_rect piece) piece (λ x y e. all_wanted (in_rect piece x y) (last_of None (first_way view x y)))
    ∙ count_in-rect piece piece (λ x y e. e)

-- nothing painted
pub ShowsScene-nothing : (view : View) (set : ℤ → ℤ → Bool) (screen : Screen) → ((x y : ℤ) → set x y ≡ false) → ShowsScene set (scene_of view) screen screen
ShowsScene-nothing view set screen none x y across down = sym (ap (λ (b : Bool). cond b (colour_at (scene_of view) (pos x) (pos y)) (pixel_of screen x y)) (none (pos x) (pos y)))

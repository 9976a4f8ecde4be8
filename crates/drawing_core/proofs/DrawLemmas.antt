-- Drawing: nothing drawn, one rectangle, and one drawing after another.
use Rattle.std.proofs.Common.{◌≡◌, ℕ, suc, ◌+◌, ◌-◌, ◌/◌, ◌%◌, ◌<◌, ◌≤◌, pos, Bool, true, false, not, ◌&&◌, cond, List, [], ◌∷◌, length, get_or, refl, sym, ap, ◌∙◌, arith}
use Rattle.std.proofs.lemmas.Bool.{false≢true}
use Rattle.std.proofs.lemmas.List.Sums.{sum_by-cons}
use Rattle.std.proofs.lemmas.Nat.{div-add-mod', div_below, mod_below}
use Rattle.std.proofs.Math.Nat.{mul_comm}
use Rattle.geom_core.specs.declared.rectangle.Rect.{Rect}
use Rattle.geom_core.specs.Rect.{in_rect, area_of}
use Rattle.geom_core.specs.Count.{true_count}
use Rattle.canvas_core.specs.Screen.{Screen, IsScreen, pixel_of, risen}
use Rattle.canvas_core.proofs.Span.{risen-none, risen-then}
use Rattle.scene_model.specs.Scene.{Scene}
use Rattle.scene_model.specs.Colours.{colour_at}
use Rattle.redraw_core.specs.Dirt.{Dirt, IsDirt, IsClean, IsTaken, is_dirty, dirty_count}
use Rattle.painter_core.specs.Painting.{ShowsScene}
use Rattle.painter_core.proofs.PaintedLemmas.{risen_by-none, risen_by-then}
use Rattle.drawing_core.specs.Drawing.{Drawn, was_cleaned}

stays : (b : Bool) (drawn before : ℕ) → before ≡ cond (b && not b) drawn before
stays true drawn before = refl
stays false drawn before = refl

pub Drawn-nothing : (scene : Scene) (dirt : Dirt) (screen : Screen) → IsDirt dirt → IsScreen screen → Drawn scene dirt screen 0 dirt screen
Drawn-nothing scene dirt screen is fine = record {
  pixels = λ x y hx hy. stays (is_dirty dirt x y) (colour_at scene (pos x) (pos y)) (pixel_of screen x y);
  cleans = λ x y hx hy on. on;
  cleaned = omega arith;
  writes = omega arith;
  all_writes = risen-none screen.all_writes fine.all_writes_fit;
  spans_grow = omega arith;
  all_spans = risen_by-none screen.all_spans screen.spans fine.all_spans_fit;
  dirt_width = refl;
  dirt_height = refl;
  dirt = is;
  canvas_width = refl;
  canvas_height = refl;
  canvas = fine;
}

-- what is taken of dirt that holds it
was_taken : (was inside : Bool) → (inside ≡ true → was ≡ true) → inside ≡ (was && not (was && not inside))
was_taken true true h = refl
was_taken true false h = refl
was_taken false true h = absurd (false≢true (h refl))
was_taken false false h = refl

taken_was : (was inside now : Bool) → now ≡ (was && not inside) → now ≡ true → was ≡ true
taken_was true inside now e on = refl
taken_was false inside now e on = sym e ∙ on

-- a rectangle that was taken out of the dirt and painted
pub Drawn-piece : (scene : Scene) (n : ℕ) (rect : Rect) (old : Dirt) (screen : Screen) (new : Dirt) (drawn : Screen) → old.width ≡ screen.width → old.height ≡ screen.height → IsTaken n rect old new → dirty_count new + area_of rect ≡ dirty_count old → new.width ≡ old.width → new.height ≡ old.height → IsDirt new
    → ShowsScene (in_rect rect) scene screen drawn → drawn.writes ≡ screen.writes + area_of rect → drawn.all_writes ≡ risen screen.all_writes (area_of rect) → screen.spans ≤ drawn.spans → drawn.all_spans ≡ risen screen.all_spans (drawn.spans - screen.spans) → drawn.width ≡ screen.width → drawn.height ≡ screen.height → IsScreen drawn
    → Drawn scene old screen (area_of rect) new drawn
Drawn-piece scene n rect old screen new drawn width height taken fewer w h is shows writes all_writes spans_grow all_spans w' h' fine = record {
  pixels = λ x y hx hy.
      let inside = in_rect rect (pos x) (pos y) in
      let mark : inside ≡ was_cleaned old new x y =
      was_taken (is_dirty old x y) inside (taken.were_dirty x y hx hy) ∙ ap (λ b. is_dirty old x y && not b) (sym (taken.pixels x y hx hy)) in
      shows x y (omega arith) (omega arith) ∙ ap (λ b. cond b (colour_at scene (pos x) (pos y)) (pixel_of screen x y)) mark;
  cleans = λ x y hx hy on. taken_was (is_dirty old x y) (in_rect rect (pos x) (pos y)) (is_dirty new x y) (taken.pixels x y hx hy) on;
  cleaned = fewer;
  writes = writes;
  all_writes = all_writes;
  spans_grow = spans_grow;
  all_spans = all_spans;
  dirt_width = w;
  dirt_height = h;
  dirt = is;
  canvas_width = w';
  canvas_height = h';
  canvas = fine;
}

-- a pixel that was drawn by the first, by the second or by none
drawn_twice : (was mid is : Bool) (now between before drawn : ℕ) → (mid ≡ true → was ≡ true) → (is ≡ true → mid ≡ true) → now ≡ cond (mid && not is) drawn between → between ≡ cond (was && not mid) drawn before → now ≡ cond (was && not is) drawn before
drawn_twice true true true now between before drawn h k e f = e ∙ f
drawn_twice true true false now between before drawn h k e f = e
drawn_twice true false true now between before drawn h k e f = absurd (false≢true (k refl))
drawn_twice true false false now between before drawn h k e f = e ∙ f
drawn_twice false true is now between before drawn h k e f = absurd (false≢true (h refl))
drawn_twice false false true now between before drawn h k e f = absurd (false≢true (k refl))
drawn_twice false false false now between before drawn h k e f = e ∙ f

pub Drawn-then : (scene : Scene) (old : Dirt) (screen : Screen) (n : ℕ) (mid : Dirt) (between : Screen) (m : ℕ) (new : Dirt) (drawn : Screen) → Drawn scene old screen n mid between → Drawn scene mid between m new drawn → Drawn scene old screen (n + m) new drawn
Drawn-then scene old screen n mid between m new drawn one two = record {
  pixels = λ x y hx hy.
      let hx' : x < mid.width = omega (arith, one.dirt_width) in
      let hy' : y < mid.height = omega (arith, one.dirt_height) in
      drawn_twice (is_dirty old x y) (is_dirty mid x y) (is_dirty new x y) (pixel_of drawn x y) (pixel_of between x y) (pixel_of screen x y) (colour_at scene (pos x) (pos y))
      (one.cleans x y hx hy) (two.cleans x y hx' hy') (two.pixels x y hx' hy') (one.pixels x y hx hy);
  cleans = λ x y hx hy on. one.cleans x y hx hy (two.cleans x y (omega (arith, one.dirt_width)) (omega (arith, one.dirt_height)) on);
  cleaned = omega (arith, one.cleaned, two.cleaned);
  writes = omega (arith, one.writes, two.writes);
  all_writes = two.all_writes ∙ ap (λ k. risen k m) one.all_writes ∙ risen-then screen.all_writes n m;
  spans_grow = omega (arith, one.spans_grow, two.spans_grow);
  all_spans = risen_by-then screen.all_spans between.all_spans drawn.all_spans screen.spans between.spans drawn.spans one.all_spans two.all_spans one.spans_grow two.spans_grow;
  dirt_width = two.dirt_width ∙ one.dirt_width;
  dirt_height = two.dirt_height ∙ one.dirt_height;
  dirt = two.dirt;
  canvas_width = two.canvas_width ∙ one.canvas_width;
  canvas_height = two.canvas_height ∙ one.canvas_height;
  canvas = two.canvas;
}

true_count-none : (marks : List Bool) → ((k : ℕ) → k < length marks → get_or marks k false ≡ false) → true_count marks ≡ 0
true_count-none [] none = refl
true_count-none (mark ∷ marks) none =
    let rest = true_count-none marks (λ k h. none (suc k) (omega arith)) in
    let here = ap {B = ℕ} (λ (b : Bool). cond b 1 0) (none 0 (omega arith)) in
    omega (arith, sum_by-cons (λ (b : Bool). cond b 1 0) mark marks, rest, here)

-- where no pixel is dirty, none is counted
pub count-clean : (dirt : Dirt) → IsDirt dirt → IsClean dirt → dirty_count dirt ≡ 0
count-clean dirt is clean =
    let w = dirt.width in
    true_count-none dirt.marks (λ k h.
    ap (λ n. get_or dirt.marks n false) (sym (div-add-mod' k w))
    ∙ clean (k % w) (k / w) (mod_below k w is.least_width) (div_below k w dirt.height is.least_width (omega (arith, is.size, mul_comm w dirt.height))))

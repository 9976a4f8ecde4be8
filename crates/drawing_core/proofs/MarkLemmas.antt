-- Marking: nothing marked, and one test after another.
use Rattle.std.proofs.Common.{◌≡◌, ℕ, ◌<◌, ℤ, pos, Bool, false, ◌||◌, refl, sym, ap, ◌∙◌, arith}
use Rattle.std.proofs.Math.Bool.{or-false, or_assoc}
use Rattle.shot_core.specs.Shot.{most_numbers}
use Rattle.redraw_core.specs.Dirt.{Dirt, IsDirt, is_dirty}
use Rattle.drawing_core.specs.Marking.{Marked}

-- a test that nothing passes marks nothing
pub Marked-nothing : (test : ℤ → ℤ → Bool) (dirt : Dirt) → ((x y : ℤ) → test x y ≡ false) → IsDirt dirt → Marked test dirt dirt
Marked-nothing test dirt none is = record {
  pixels = λ x y hx hy. sym (or-false (is_dirty dirt x y)) ∙ ap (λ b. is_dirty dirt x y || b) (sym (none (pos x) (pos y)));
  width = refl;
  height = refl;
  valid = is;
}

-- two tests, one after the other
pub Marked-then : (first second both : ℤ → ℤ → Bool) (old mid new : Dirt) → ((x y : ℤ) → both x y ≡ (first x y || second x y)) → Marked first old mid → Marked second mid new → Marked both old new
Marked-then first second both old mid new joined one two = record {
  pixels = λ x y hx hy.
      two.pixels x y (omega (arith, one.width)) (omega (arith, one.height))
      ∙ ap (λ b. b || second (pos x) (pos y)) (one.pixels x y hx hy)
      ∙ or_assoc (is_dirty old x y) (first (pos x) (pos y)) (second (pos x) (pos y))
      ∙ ap (λ b. is_dirty old x y || b) (sym (joined (pos x) (pos y)));
  width = two.width ∙ one.width;
  height = two.height ∙ one.height;
  valid = two.valid;
}

-- a number below 2,048
pub below_most : (n : ℕ) → n < 2048 → n < most_numbers
unfolding most_numbers
below_most n h = h

pub most_numbers-is : most_numbers ≡ 2048
unfolding most_numbers
most_numbers-is = refl

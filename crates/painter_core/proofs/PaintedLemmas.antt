-- Painting: nothing, one set after another, and the same set and colours in other words.
use Rattle.std.proofs.Common.{◌≡◌, ℕ, ◌+◌, ◌-◌, ◌<◌, ◌≤◌, ◌^◌, ℤ, pos, Bool, true, false, cond, ◌||◌, refl, sym, ap, ◌∙◌, arith}
use Rattle.canvas_core.specs.Screen.{Screen, IsScreen, pixel_of, risen}
use Rattle.canvas_core.proofs.Span.{risen-none, risen-then}
use Rattle.painter_core.specs.Painted.{Painted}

-- a count of all time that rose as another count did, where that didn't rise
pub risen_by-none : (all count : ℕ) → all < 2 ^ 64 → all ≡ risen all (count - count)
risen_by-none all count fits = risen-none all fits ∙ ap (λ n. risen all n) (omega arith)

-- and where it rose twice
pub risen_by-then : (all some more before mid after : ℕ) → some ≡ risen all (mid - before) → more ≡ risen some (after - mid) → before ≤ mid → mid ≤ after → more ≡ risen all (after - before)
risen_by-then all some more before mid after first second low high =
    second
    ∙ ap (λ n. risen n (after - mid)) first
    ∙ risen-then all (mid - before) (after - mid)
    ∙ ap (λ n. risen all n) (omega arith)

pub Painted-none : (set : ℤ → ℤ → Bool) (colour : ℤ → ℤ → ℕ) (screen : Screen) → IsScreen screen → ((x y : ℤ) → set x y ≡ false) → Painted set colour 0 screen screen
Painted-none set colour screen valid none = record {
  width = refl;
  height = refl;
  writes = omega arith;
  all_writes = risen-none screen.all_writes valid.all_writes_fit;
  spans_grow = omega arith;
  all_spans = risen_by-none screen.all_spans screen.spans valid.all_spans_fit;
  valid = valid;
  pixels = λ x y l m. sym (ap (λ (b : Bool). cond b (colour (pos x) (pos y)) (pixel_of screen x y)) (none (pos x) (pos y)));
}

then_bits : (a b t : Bool) (c p q r : ℕ) → t ≡ (a || b) → r ≡ cond b c q → q ≡ cond a c p → r ≡ cond t c p
then_bits true true t c p q r e f g = f ∙ sym (ap (λ (s : Bool). cond s c p) e)
then_bits true false t c p q r e f g = f ∙ g ∙ sym (ap (λ (s : Bool). cond s c p) e)
then_bits false true t c p q r e f g = f ∙ sym (ap (λ (s : Bool). cond s c p) e)
then_bits false false t c p q r e f g = f ∙ g ∙ sym (ap (λ (s : Bool). cond s c p) e)

pub Painted-then : (first second both : ℤ → ℤ → Bool) (colour : ℤ → ℤ → ℕ) (n m : ℕ) (old mid new : Screen) → Painted first colour n old mid → Painted second colour m mid new → ((x y : ℤ) → both x y ≡ (first x y || second x y)) → Painted both colour (n + m) old new
Painted-then first second both colour n m old mid new a b joined = record {
  width = b.width ∙ a.width;
  height = b.height ∙ a.height;
  writes = omega (arith, a.writes, b.writes);
  all_writes = b.all_writes ∙ ap (λ k. risen k m) a.all_writes ∙ risen-then old.all_writes n m;
  spans_grow = omega (arith, a.spans_grow, b.spans_grow);
  all_spans = risen_by-then old.all_spans mid.all_spans new.all_spans old.spans mid.spans new.spans a.all_spans b.all_spans a.spans_grow b.spans_grow;
  valid = b.valid;
  pixels = λ x y l k.
      let across : x < mid.width = omega (arith, l, a.width) in
      let down : y < mid.height = omega (arith, k, a.height) in
      then_bits (first (pos x) (pos y)) (second (pos x) (pos y)) (both (pos x) (pos y)) (colour (pos x) (pos y)) (pixel_of old x y) (pixel_of mid x y) (pixel_of new x y)
      (joined (pos x) (pos y)) (b.pixels x y across down) (a.pixels x y l k);
}

same_bits : (a b : Bool) (c d p r : ℕ) → b ≡ a → (a ≡ true → d ≡ c) → r ≡ cond a c p → r ≡ cond b d p
same_bits true b c d p r e f g = g ∙ sym (f refl) ∙ sym (ap (λ (s : Bool). cond s d p) e)
same_bits false b c d p r e f g = g ∙ sym (ap (λ (s : Bool). cond s d p) e)

pub Painted-same : (set other : ℤ → ℤ → Bool) (colour shade : ℤ → ℤ → ℕ) (n : ℕ) (old new : Screen) → Painted set colour n old new → ((x y : ℤ) → other x y ≡ set x y) → ((x y : ℤ) → set x y ≡ true → shade x y ≡ colour x y) → Painted other shade n old new
Painted-same set other colour shade n old new a sets colours = record {
  width = a.width;
  height = a.height;
  writes = a.writes;
  all_writes = a.all_writes;
  spans_grow = a.spans_grow;
  all_spans = a.all_spans;
  valid = a.valid;
  pixels = λ x y l k. same_bits (set (pos x) (pos y)) (other (pos x) (pos y)) (colour (pos x) (pos y)) (shade (pos x) (pos y)) (pixel_of old x y) (pixel_of new x y) (sets (pos x) (pos y)) (colours (pos x) (pos y)) (a.pixels x y l k);
}

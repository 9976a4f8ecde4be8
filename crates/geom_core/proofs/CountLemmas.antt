-- Counts of pixels: equal tests, tests that exclude each other, a rectangle in a box, and disjoint rectangles.
use Rattle.std.proofs.Common.{◌≡◌, ℕ, zero, suc, ◌+◌, ◌-◌, ◌*◌, ◌<◌, min, ℤ, pos, ◌+ℤ◌, ◌-ℤ◌, ◌≤ℤ◌, Bool, true, false, cond, ◌&&◌, ◌||◌, List, [], ◌∷◌, inl, inr, refl, sym, ap, ◌∙◌, arith}
use Rattle.std.specs.Prelude.{nat_abs}
use Rattle.std.proofs.lemmas.Bool.{cases_lt, and_from, or_left, or_right}
use Rattle.std.proofs.lemmas.Int.{ints}
use Rattle.geom_core.specs.declared.rectangle.Rect.{Rect}
use Rattle.geom_core.specs.Rect.{in_span, in_rect, area_of, IsInside}
use Rattle.geom_core.specs.Pieces.{covers, total_area, AreDisjoint}
use Rattle.geom_core.specs.Count.{count_span, count_rows, count_in}
use Rattle.geom_core.proofs.SpanLemmas.{in_span-at}
use Rattle.geom_core.proofs.RectLemmas.{in_rect-empty, IsEnclosed-from_inside}

one_same : (a b : Bool) → a ≡ b → cond {A = ℕ} a 1 0 ≡ cond b 1 0
one_same a b e = ap {B = ℕ} (λ (t : Bool). cond t 1 0) e

one_or : (a b : Bool) → (a && b) ≡ false → cond {A = ℕ} (a || b) 1 0 ≡ cond a 1 0 + cond b 1 0
one_or true true e = grind arith
one_or true false e = omega arith
one_or false true e = omega arith
one_or false false e = omega arith

one_and : (a b : Bool) → cond {A = ℕ} (a && b) 1 0 ≡ cond a 1 0 * cond b 1 0
one_and true true = omega arith
one_and true false = omega arith
one_and false b = omega arith

-- tests that agree on the span count the same
pub count_span-same : (t u : ℤ → Bool) (from : ℤ) (n : ℕ) → ((k : ℕ) → k < n → t (from +ℤ pos k) ≡ u (from +ℤ pos k)) → count_span t from n ≡ count_span u from n
count_span-same t u from zero h = refl
count_span-same t u from (suc n) h =
    omega (arith, count_span-same t u from n (λ k l. h k (omega arith)), one_same (t (from +ℤ pos n)) (u (from +ℤ pos n)) (h n (omega arith)))

-- where no integer passes both tests, the counts add up
pub count_span-or : (t u : ℤ → Bool) (from : ℤ) (n : ℕ) → ((p : ℤ) → (t p && u p) ≡ false) → count_span (λ p. t p || u p) from n ≡ count_span t from n + count_span u from n
count_span-or t u from zero h = omega arith
count_span-or t u from (suc n) h = omega (arith, count_span-or t u from n h, one_or (t (from +ℤ pos n)) (u (from +ℤ pos n)) (h (from +ℤ pos n)))

-- a second test that has one answer throughout
pub count_span-and : (t : ℤ → Bool) (b : Bool) (from : ℤ) (n : ℕ) → count_span (λ p. t p && b) from n ≡ count_span t from n * cond b 1 0
count_span-and t b from zero = omega arith
count_span-and t b from (suc n) = omega (arith, count_span-and t b from n, one_and (t (from +ℤ pos n)) b)

-- a test that nothing passes
pub count_span-none : (t : ℤ → Bool) (from : ℤ) (n : ℕ) → ((p : ℤ) → t p ≡ false) → count_span t from n ≡ 0
count_span-none t from zero h = refl
count_span-none t from (suc n) h = omega (arith, count_span-none t from n h, one_same (t (from +ℤ pos n)) false (h (from +ℤ pos n)))

skipped_step : (from : ℤ) (skipped len n : ℕ) → min (n - skipped) len + cond (in_span (from +ℤ pos skipped) len (from +ℤ pos n)) 1 0 ≡ min (suc n - skipped) len
skipped_step from skipped len n = grind (arith, ints)

-- how much of a span that starts `skipped` later is within the first n integers
count_span-skipped : (from : ℤ) (skipped len n : ℕ) → count_span (in_span (from +ℤ pos skipped) len) from n ≡ min (n - skipped) len
count_span-skipped from skipped len zero = omega arith
count_span-skipped from skipped len (suc n) = omega (arith, count_span-skipped from skipped len n, skipped_step from skipped len n)

-- a span within the counted one is counted whole
pub count_span-in_span : (from start : ℤ) (len n : ℕ) → from ≤ℤ start → (start +ℤ pos len) ≤ℤ (from +ℤ pos n) → count_span (in_span start len) from n ≡ len
count_span-in_span from start len n low high =
    let skipped = nat_abs (start -ℤ from) in
    let is : from +ℤ pos skipped ≡ start = omega (arith, ints) in
    let e = count_span-skipped from skipped len n in
    let whole = ap (λ (s : ℤ). count_span (in_span s len) from n) is in
    omega (arith, ints, e, whole)

-- tests that agree on the box count the same there
pub count_rows-same : (t u : ℤ → ℤ → Bool) (x : ℤ) (w : ℕ) (y : ℤ) (n : ℕ) → ((k j : ℕ) → k < w → j < n → t (x +ℤ pos k) (y +ℤ pos j) ≡ u (x +ℤ pos k) (y +ℤ pos j)) → count_rows t x w y n ≡ count_rows u x w y n
count_rows-same t u x w y zero h = refl
count_rows-same t u x w y (suc n) h =
    omega (arith, count_rows-same t u x w y n (λ k j l m. h k j l (omega arith)), count_span-same (λ p. t p (y +ℤ pos n)) (λ p. u p (y +ℤ pos n)) x w (λ k l. h k n l (omega arith)))

pub count_rows-or : (t u : ℤ → ℤ → Bool) (x : ℤ) (w : ℕ) (y : ℤ) (n : ℕ) → ((p q : ℤ) → (t p q && u p q) ≡ false) → count_rows (λ p q. t p q || u p q) x w y n ≡ count_rows t x w y n + count_rows u x w y n
count_rows-or t u x w y zero h = omega arith
count_rows-or t u x w y (suc n) h =
    omega (arith, count_rows-or t u x w y n h, count_span-or (λ p. t p (y +ℤ pos n)) (λ p. u p (y +ℤ pos n)) x w (λ p. h p (y +ℤ pos n)))

pub count_rows-none : (t : ℤ → ℤ → Bool) (x : ℤ) (w : ℕ) (y : ℤ) (n : ℕ) → ((p q : ℤ) → t p q ≡ false) → count_rows t x w y n ≡ 0
count_rows-none t x w y zero h = refl
count_rows-none t x w y (suc n) h = omega (arith, count_rows-none t x w y n h, count_span-none (λ p. t p (y +ℤ pos n)) x w (λ p. h p (y +ℤ pos n)))

-- a test across and a test down: the counts are multiplied
pub count_rows-and : (t u : ℤ → Bool) (x : ℤ) (w : ℕ) (y : ℤ) (n : ℕ) → count_rows (λ p q. t p && u q) x w y n ≡ count_span t x w * count_span u y n
count_rows-and t u x w y zero = omega arith
count_rows-and t u x w y (suc n) = omega (arith, count_rows-and t u x w y n, count_span-and t (u (y +ℤ pos n)) x w)

-- tests that agree on the box count the same there, by its pixels
pub count_in-same : (t u : ℤ → ℤ → Bool) (box : Rect) → ((x y : ℤ) → in_rect box x y ≡ true → t x y ≡ u x y) → count_in t box ≡ count_in u box
count_in-same t u box h = count_rows-same t u box.x box.w box.y box.h (λ k j l m. h (box.x +ℤ pos k) (box.y +ℤ pos j) (and_from _ _ (in_span-at box.x box.w k l) (in_span-at box.y box.h j m)))

-- where no pixel passes both tests, the counts add up
pub count_in-or : (t u : ℤ → ℤ → Bool) (box : Rect) → ((x y : ℤ) → (t x y && u x y) ≡ false) → count_in (λ x y. t x y || u x y) box ≡ count_in t box + count_in u box
count_in-or t u box h = count_rows-or t u box.x box.w box.y box.h h

within_box : (t b : Bool) → b ≡ true → (t && b) ≡ t
within_box true b e = e
within_box false b e = refl

apart_in_box : (t u b : Bool) → (b ≡ true → (t && u) ≡ false) → ((t && b) && (u && b)) ≡ false
apart_in_box t u true h = let e = h refl in grind arith
apart_in_box t u false h = grind arith

-- where the pixels of the box that pass v are those that pass t or u, and none passes both, the counts add up
pub count_in-parts : (v t u : ℤ → ℤ → Bool) (box : Rect) → ((x y : ℤ) → in_rect box x y ≡ true → v x y ≡ (t x y || u x y)) → ((x y : ℤ) → in_rect box x y ≡ true → (t x y && u x y) ≡ false) → count_in v box ≡ count_in t box + count_in u box
count_in-parts v t u box same apart =
    let t_here = λ (x y : ℤ). t x y && in_rect box x y in
    let u_here = λ (x y : ℤ). u x y && in_rect box x y in
    count_in-same v (λ x y. t_here x y || u_here x y) box (λ x y e. same x y e ∙ ap (λ b. b || u x y) (sym (within_box (t x y) (in_rect box x y) e)) ∙ ap (λ b. t_here x y || b) (sym (within_box (u x y) (in_rect box x y) e)))
    ∙ count_in-or t_here u_here box (λ x y. apart_in_box (t x y) (u x y) (in_rect box x y) (apart x y))
    ∙ ap (λ n. n + count_in u_here box) (count_in-same t_here t box (λ x y e. within_box (t x y) (in_rect box x y) e))
    ∙ ap (λ n. count_in t box + n) (count_in-same u_here u box (λ x y e. within_box (u x y) (in_rect box x y) e))

-- a rectangle in the box is counted whole
pub count_in-rect : (r box : Rect) → IsInside r box → count_in (in_rect r) box ≡ area_of r
count_in-rect r box inside = elim (cases_lt 0 (area_of r)) [
  | inl some ↦
      let sides = IsEnclosed-from_inside r box some inside in
      count_rows-and (in_span r.x r.w) (in_span r.y r.h) box.x box.w box.y box.h
      ∙ ap (λ n. n * count_span (in_span r.y r.h) box.y box.h) (count_span-in_span box.x r.x r.w box.w sides.left sides.right)
      ∙ ap (λ n. r.w * n) (count_span-in_span box.y r.y r.h box.h sides.upper sides.lower)
  | inr none ↦
      let empty : area_of r ≡ 0 = omega arith in
      count_rows-none (in_rect r) box.x box.w box.y box.h (λ x y. in_rect-empty r x y empty) ∙ sym empty
]

-- disjoint rectangles in the box: as many pixels as the sum of their areas
pub count_in-covers : (rs : List Rect) (box : Rect) → AreDisjoint rs → ((x y : ℤ) → covers rs x y ≡ true → in_rect box x y ≡ true) → count_in (covers rs) box ≡ total_area rs
count_in-covers [] box disjoint inside = count_rows-none (covers []) box.x box.w box.y box.h (λ x y. refl)
count_in-covers (r ∷ rs) box disjoint inside =
    count_in-or (in_rect r) (covers rs) box disjoint.0
    ∙ ap (λ n. n + count_in (covers rs) box) (count_in-rect r box (λ x y e. inside x y (or_left _ _ e)))
    ∙ ap (λ n. area_of r + n) (count_in-covers rs box disjoint.1 (λ x y e. inside x y (or_right (in_rect r x y) _ e)))

-- the areas of disjoint parts add up to the area of the whole
pub total_area-whole : (whole : Rect) (parts : List Rect) → AreDisjoint parts → ((x y : ℤ) → covers parts x y ≡ in_rect whole x y) → total_area parts ≡ area_of whole
total_area-whole whole parts disjoint same =
    sym (count_in-covers parts whole disjoint (λ x y e. sym (same x y) ∙ e))
    ∙ count_in-same (covers parts) (in_rect whole) whole (λ x y e. same x y)
    ∙ count_in-rect whole whole (λ x y e. e)

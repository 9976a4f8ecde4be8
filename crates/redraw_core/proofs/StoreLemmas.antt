-- Kept rectangles and the overflow map: one more rectangle, one less, and what is dirty after it.
use Rattle.std.proofs.Common.{◌≡◌, ℕ, ◌+◌, ◌*◌, ◌/◌, ◌%◌, ◌<◌, ◌≤◌, ℤ, pos, Bool, true, false, ◌&&◌, ◌||◌, List, [], ◌∷◌, ◌++◌, length, get_or, take, refl, sym, ap, ◌∙◌, inl, inr, arith}
use Rattle.std.specs.Prelude.{nat_abs}
use Rattle.std.proofs.Math.Nat.{mul-le-mul_right, mul-le-mul_left}
use Rattle.std.proofs.lemmas.Int.{ints}
use Rattle.std.proofs.lemmas.List.FromFn.{length-map-range_with_len}
use Rattle.std.proofs.lemmas.List.Sums.{count_by-le-length}
use Rattle.std.proofs.lemmas.Bool.{and_parts, cases_Bool}
use Rattle.geom_core.specs.declared.rectangle.Rect.{Rect}
use Rattle.geom_core.specs.Rect.{in_rect, in_span, area_of}
use Rattle.geom_core.specs.Pieces.{covers, total_area}
use Rattle.geom_core.specs.Count.{screen_of, marks_on}
use Rattle.geom_core.proofs.SpanLemmas.{in_span-true}
use Rattle.geom_core.proofs.PieceLemmas.{covers-append, total_area-append, HavePixels-append, AreDisjoint-append, covers-take_more}
use Rattle.geom_core.proofs.ScreenLemmas.{true_count-covers}
use Rattle.redraw_core.specs.Dirt.{Dirt, is_dirty}
use Rattle.redraw_core.specs.Pairs.{spans_meet, may_meet}
use Rattle.redraw_core.specs.Stored.{IsKept, IsPiece, IsFresh, IsApart}

-- ---- pixels of the screen

-- the pixel (x, y) of integers is one of the screen
pub record IsPixel (width height : ℕ) (x y : ℤ) : Type 0 where
  pub column : pos (nat_abs x) ≡ x
  pub row : pos (nat_abs y) ≡ y
  pub left : nat_abs x < width
  pub upper : nat_abs y < height

pub IsPixel-on_screen : (width height : ℕ) (x y : ℤ) → in_rect (screen_of width height) x y ≡ true → IsPixel width height x y
IsPixel-on_screen width height x y e =
    let s = and_parts (in_span (pos 0) width x) (in_span (pos 0) height y) e in
    let across = in_span-true (pos 0) width x s.0 in
    let down = in_span-true (pos 0) height y s.1 in
    record { column = omega (arith, ints, across.0); row = omega (arith, ints, down.0); left = omega (arith, ints, across.0, across.1); upper = omega (arith, ints, down.0, down.1) }

-- a test of integers at that pixel
pub at_pixel : (test : ℤ → ℤ → Bool) (width height : ℕ) (x y : ℤ) → IsPixel width height x y → test (pos (nat_abs x)) (pos (nat_abs y)) ≡ test x y
at_pixel test width height x y p = ap (λ v. test v (pos (nat_abs y))) p.column ∙ ap (test x) p.row

or_none : (t : Bool) → (t || false) ≡ t
or_none true = refl
or_none false = refl

pub either : (k r s : Bool) → (k || r) ≡ true → (k ≡ true → s ≡ true) → (r ≡ true → s ≡ true) → s ≡ true
either true r s e f g = f refl
either false r s e f g = g e

-- ---- rectangles that are apart

spans_apart : (from : ℤ) (len : ℕ) (start : ℤ) (size : ℕ) (p : ℤ) → spans_meet from len start size ≡ false → (in_span from len p && in_span start size p) ≡ false
spans_apart from len start size p e = grind (arith, ints)

sides_apart : (ax ay bx by u v : Bool) → (u ≡ false → (ax && bx) ≡ false) → (v ≡ false → (ay && by) ≡ false) → (u && v) ≡ false → ((ax && ay) && (bx && by)) ≡ false
sides_apart ax ay bx by true v f g e = let h = g e in grind arith
sides_apart ax ay bx by false v f g e = let h = f refl in grind arith

rects_apart : (a b : Rect) (x y : ℤ) → may_meet a b ≡ false → (in_rect a x y && in_rect b x y) ≡ false
rects_apart a b x y e =
    sides_apart (in_span a.x a.w x) (in_span a.y a.h y) (in_span b.x b.w x) (in_span b.y b.h y) (spans_meet a.x a.w b.x b.w) (spans_meet a.y a.h b.y b.h)
    (spans_apart a.x a.w b.x b.w x) (spans_apart a.y a.h b.y b.h y) e

more_apart : (f n p t : Bool) → t ≡ (f || n) → (f && p) ≡ false → (n && p) ≡ false → (t && p) ≡ false
more_apart f n p t e a b = grind arith

-- one rectangle more that the part doesn't meet
pub IsApart-more : (kept : List Rect) (part d : Rect) (k : ℕ) → k < length kept → IsApart part (take k kept) → may_meet (get_or kept k d) part ≡ false → IsApart part (take (k + 1) kept)
IsApart-more kept part d k h is e = record {
  none = λ x y.
      more_apart (covers (take k kept) x y) (in_rect (get_or kept k d) x y) (in_rect part x y) (covers (take (k + 1) kept) x y) (covers-take_more kept k d x y h) (is.none x y) (rects_apart (get_or kept k d) part x y e);
}

fresh_bits : (r s k l m : Bool) → s ≡ r → l ≡ k → (s && (l || m)) ≡ false → (k && r) ≡ false
fresh_bits r s k l m e f g = grind arith

and_not_true : (k r : Bool) → r ≡ false → (k && r) ≡ false
and_not_true k r e = grind arith

-- a rectangle of clean pixels is apart from the kept ones
pub IsApart-fresh : (rect : Rect) (kept : List Rect) (map : Dirt) → IsPiece rect map → IsFresh rect kept map → IsApart rect kept
IsApart-fresh rect kept map piece fresh = record {
  none = λ x y. elim (cases_Bool (in_rect rect x y)) [
    | inl e ↦
        let p = IsPixel-on_screen map.width map.height x y (piece.inside x y e) in
        fresh_bits (in_rect rect x y) (in_rect rect (pos (nat_abs x)) (pos (nat_abs y))) (covers kept x y) (covers kept (pos (nat_abs x)) (pos (nat_abs y))) (is_dirty map (nat_abs x) (nat_abs y))
        (at_pixel (in_rect rect) map.width map.height x y p) (at_pixel (covers kept) map.width map.height x y p) (fresh.clean (nat_abs x) (nat_abs y) p.left p.upper)
    | inr e ↦ and_not_true (covers kept x y) (in_rect rect x y) e
  ];
}

-- ---- one rectangle more

pub covers-push : (kept : List Rect) (rect : Rect) (x y : ℤ) → covers (kept ++ rect ∷ []) x y ≡ (covers kept x y || in_rect rect x y)
covers-push kept rect x y = covers-append kept (rect ∷ []) x y ∙ ap (λ t. covers kept x y || t) (or_none (in_rect rect x y))

push_apart : (a k r m : Bool) → a ≡ (k || r) → (k && m) ≡ false → (r && (k || m)) ≡ false → (a && m) ≡ false
push_apart a k r m e f g = grind arith

pub IsKept-push : (kept : List Rect) (area : ℕ) (map : Dirt) (rect : Rect) → IsKept kept area map → IsPiece rect map → IsFresh rect kept map → IsKept (kept ++ rect ∷ []) (area + area_of rect) map
IsKept-push kept area map rect is piece fresh = record {
  valid = is.valid;
  disjoint = AreDisjoint-append kept (rect ∷ []) is.disjoint ((λ x y. let p = in_rect rect x y in grind arith), tt)
      (λ x y. let e = (IsApart-fresh rect kept map piece fresh).none x y in let p = in_rect rect x y in let q = covers kept x y in grind arith);
  filled = HavePixels-append kept (rect ∷ []) is.filled (piece.some, tt);
  on_screen = λ x y e. either (covers kept x y) (in_rect rect x y) (in_rect (screen_of map.width map.height) x y) (sym (covers-push kept rect x y) ∙ e) (is.on_screen x y) (piece.inside x y);
  apart = λ x y hx hy. push_apart (covers (kept ++ rect ∷ []) (pos x) (pos y)) (covers kept (pos x) (pos y)) (in_rect rect (pos x) (pos y)) (is_dirty map x y) (covers-push kept rect (pos x) (pos y)) (is.apart x y hx hy) (fresh.clean x y hx hy);
  sum = omega (arith, is.sum, total_area-append kept (rect ∷ []));
}

-- the areas fit the screen
pub total_area-fits : (kept : List Rect) (area : ℕ) (map : Dirt) → IsKept kept area map → total_area kept ≤ 16777216
total_area-fits kept area map is =
    let count = true_count-covers kept map.width map.height is.disjoint is.on_screen in
    let most = count_by-le-length (λ b. b) (marks_on (covers kept) map.width map.height) in
    let size = length-map-range_with_len (λ i. covers kept (pos (i % map.width)) (pos (i / map.width))) 0 (map.height * map.width) in
    omega (arith, count, most, size, mul-le-mul_right map.width is.valid.greatest_height, mul-le-mul_left 4096 is.valid.greatest_width)

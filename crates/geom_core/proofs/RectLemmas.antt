-- Rectangles as sets of pixels: which pixels an empty one and a met one have.
use Rattle.std.proofs.Common.{◌≡◌, ℕ, zero, suc, ◌*◌, ◌<◌, ◌≤◌, ℤ, pos, ◌+◌, Bool, true, false, ◌&&◌, ◌⊎◌, refl, inl, inr, sym, ap, ◌∙◌, arith}
use Rattle.std.specs.Prelude.{nat_abs}
use Rattle.std.proofs.lemmas.Int.{ints}
use Rattle.geom_core.proofs.SpanLemmas.{in_span-some, in_span-first, in_span-part, IsPart-from, IsNear-part, IsNear-zero}
use Rattle.geom_core.specs.declared.rectangle.Rect.{Rect}
use Rattle.geom_core.specs.Rect.{in_span, in_rect, area_of, IsInRange, IsEnclosed, IsInside, SamePixels}
use Rattle.geom_core.specs.Count.{screen_of}
use Rattle.std.proofs.lemmas.Bool.{and_parts, and_from, cases_lt}

-- a span of length 0 has nothing
pub in_span-zero : (from p : ℤ) → in_span from 0 p ≡ false
in_span-zero from p = grind (arith, ints)

and_swap : (p q r s : Bool) → ((p && q) && (r && s)) ≡ ((p && r) && (q && s))
and_swap p q r s = grind arith

and_none : (p q : Bool) → (p ≡ true → q ≡ true → ⊥) → (p && q) ≡ false
and_none true true f = absurd (f refl refl)
and_none true false f = refl
and_none false q f = refl

-- where one side shares nothing, the rectangles share nothing
pub meet_none : (a b : Rect) (cx cy sx sy : ℤ) (lx ly : ℕ) → ((p : ℤ) → in_span sx lx p ≡ (in_span a.x a.w p && in_span b.x b.w p)) → ((p : ℤ) → in_span sy ly p ≡ (in_span a.y a.h p && in_span b.y b.h p)) → (lx ≡ 0) ⊎ (ly ≡ 0) → (x y : ℤ) → (in_span cx 0 x && in_span cy 0 y) ≡ (in_rect a x y && in_rect b x y)
meet_none a b cx cy sx sy lx ly across down e x y = let f = in_span-zero cx x in let u = across x in let v = down y in let g = in_span-zero sx x in let h = in_span-zero sy y in grind arith

-- what both sides share is what the rectangles share
pub meet_some : (a b : Rect) (sx sy : ℤ) (lx ly : ℕ) → ((p : ℤ) → in_span sx lx p ≡ (in_span a.x a.w p && in_span b.x b.w p)) → ((p : ℤ) → in_span sy ly p ≡ (in_span a.y a.h p && in_span b.y b.h p)) → (x y : ℤ) → (in_span sx lx x && in_span sy ly y) ≡ (in_rect a x y && in_rect b x y)
meet_some a b sx sy lx ly across down x y = rw (across x, down y) (and_swap (in_span a.x a.w x) (in_span b.x b.w x) (in_span a.y a.h y) (in_span b.y b.h y))

-- an empty rectangle has no pixel
pub in_rect-empty : (r : Rect) (x y : ℤ) → area_of r ≡ 0 → in_rect r x y ≡ false
in_rect-empty r x y e = and_none (in_span r.x r.w x) (in_span r.y r.h y) (λ t u. let p = in_span-some r.x r.w x t in let q = in_span-some r.y r.h y u in grind arith)

-- a product is above 0 where both factors are
pub sides_some : (w h : ℕ) → 0 < w * h → (0 < w) × (0 < h)
sides_some zero h e = absurd (omega arith)
sides_some (suc w) zero e = absurd (omega arith)
sides_some (suc w) (suc h) e = (omega arith, omega arith)

pub area_some : (w h : ℕ) → 0 < w → 0 < h → 0 < w * h
area_some zero h e f = absurd (omega arith)
area_some (suc w) zero e f = absurd (omega arith)
area_some (suc w) (suc h) e f = omega arith

-- a rectangle that isn't empty has the pixel in its corner
pub in_rect-corner : (r : Rect) → 0 < area_of r → in_rect r r.x r.y ≡ true
in_rect-corner r e = let s = sides_some r.w r.h e in and_from _ _ (in_span-first r.x r.w s.0) (in_span-first r.y r.h s.1)

-- a rectangle with a pixel isn't empty
pub area_of-some : (r : Rect) (x y : ℤ) → in_rect r x y ≡ true → 0 < area_of r
area_of-some r x y e = let s = and_parts (in_span r.x r.w x) (in_span r.y r.h y) e in area_some r.w r.h (in_span-some r.x r.w x s.0) (in_span-some r.y r.h y s.1)

-- a rectangle whose pixels are all in another has its sides within the other's
pub IsEnclosed-from_inside : (inner outer : Rect) → 0 < area_of inner → IsInside inner outer → IsEnclosed inner outer
IsEnclosed-from_inside inner outer some h =
    let s = sides_some inner.w inner.h some in
    let across = IsPart-from inner.x inner.w outer.x outer.w s.0 (λ p e. (and_parts (in_span outer.x outer.w p) (in_span outer.y outer.h inner.y) (h p inner.y (and_from _ _ e (in_span-first inner.y inner.h s.1)))).0) in
    let down = IsPart-from inner.y inner.h outer.y outer.h s.1 (λ p e. (and_parts (in_span outer.x outer.w inner.x) (in_span outer.y outer.h p) (h inner.x p (and_from _ _ (in_span-first inner.x inner.w s.0) e))).1) in
    record { left = across.start; right = across.end; upper = down.start; lower = down.end }

-- a rectangle whose sides are within another's has its pixels in the other
pub IsInside-from_enclosed : (inner outer : Rect) → IsEnclosed inner outer → IsInside inner outer
IsInside-from_enclosed inner outer h = λ x y e.
    let s = and_parts (in_span inner.x inner.w x) (in_span inner.y inner.h y) e in
    and_from _ _ (in_span-part inner.x inner.w outer.x outer.w x (record { start = h.left; end = h.right }) s.0) (in_span-part inner.y inner.h outer.y outer.h y (record { start = h.upper; end = h.lower }) s.1)

-- a rectangle is its four numbers
abbrev pub rect_of : ℤ → ℤ → ℕ → ℕ → Rect
rect_of x y w h = record { x = x; y = y; w = w; h = h }

pub rect_same : (a b : Rect) → a.x ≡ b.x → a.y ≡ b.y → a.w ≡ b.w → a.h ≡ b.h → a ≡ b
rect_same a b x y w h = ap (λ (v : ℤ). rect_of v a.y a.w a.h) x ∙ ap (λ (v : ℤ). rect_of b.x v a.w a.h) y ∙ ap (λ (v : ℕ). rect_of b.x b.y v a.h) w ∙ ap (λ (v : ℕ). rect_of b.x b.y b.w v) h

-- each is enclosed in the other
sides_same : (a b : Rect) → IsEnclosed a b → IsEnclosed b a → (a.x ≡ b.x) × (a.y ≡ b.y) × (a.w ≡ b.w) × (a.h ≡ b.h)
sides_same a b h k = (omega (arith, ints, h.left, k.left), omega (arith, ints, h.upper, k.upper), omega (arith, ints, h.left, k.left, h.right, k.right), omega (arith, ints, h.upper, k.upper, h.lower, k.lower))

-- a rectangle with the pixels of one that isn't empty is that one
pub rect_from_pixels : (a b : Rect) → 0 < area_of a → SamePixels a b → a ≡ b
rect_from_pixels a b some same =
    let more = area_of-some b a.x a.y (sym (same a.x a.y) ∙ in_rect-corner a some) in
    let s = sides_same a b (IsEnclosed-from_inside a b some (λ x y e. sym (same x y) ∙ e)) (IsEnclosed-from_inside b a more (λ x y e. same x y ∙ e)) in
    rect_same a b s.0 s.1 s.2 s.3

-- rectangles with the same pixels have one area
pub area_of-same : (a b : Rect) → SamePixels a b → area_of a ≡ area_of b
area_of-same a b same = elim (cases_lt 0 (area_of a)) [
  | inl some ↦ ap area_of (rect_from_pixels a b some same)
  | inr none ↦ elim (cases_lt 0 (area_of b)) [
    | inl some ↦ ap area_of (sym (rect_from_pixels b a some (λ x y. sym (same x y))))
    | inr no_more ↦ omega arith
  ]
]

-- a rectangle enclosed in one within the limit is within it
pub IsInRange-from_enclosed : (inner outer : Rect) → IsEnclosed inner outer → IsInRange outer → IsInRange inner
IsInRange-from_enclosed inner outer h near = record {
  across = IsNear-part inner.x inner.w outer.x outer.w h.left h.right near.across;
  down = IsNear-part inner.y inner.h outer.y outer.h h.upper h.lower near.down;
}

-- a screen is within the limit
pub IsInRange-screen : (width height : ℕ) → width ≤ 4096 → height ≤ 4096 → IsInRange (screen_of width height)
IsInRange-screen width height w h = record { across = IsNear-zero width w; down = IsNear-zero height h }

-- on a screen the corner of a rectangle is a pair of natural numbers
pub corner_on_screen : (r : Rect) (width height : ℕ) → IsEnclosed r (screen_of width height) → (pos (nat_abs r.x) ≡ r.x) × (pos (nat_abs r.y) ≡ r.y) × (nat_abs r.x + r.w ≤ width) × (nat_abs r.y + r.h ≤ height)
corner_on_screen r width height h =
    (omega (arith, ints, h.left), omega (arith, ints, h.upper), omega (arith, ints, h.left, h.right), omega (arith, ints, h.upper, h.lower))

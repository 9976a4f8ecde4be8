-- Lists of rectangles: what one more part does to the pixels covered, the areas and the disjointness.
use Rattle.std.proofs.Common.{◌≡◌, ℕ, zero, suc, take, get_or, ◌+◌, ◌<◌, ◌≤◌, ℤ, Bool, true, false, not, eqb, ◌&&◌, ◌||◌, List, [], ◌∷◌, ◌++◌, length, refl, sym, ap, ◌∙◌, arith, length-append}
use Rattle.std.proofs.lemmas.List.{take_more}
use Rattle.std.proofs.lemmas.Bool.{or_left, or_right, false≢true, cond_both, eqb-true, eqb-false}
use Rattle.geom_core.specs.declared.rectangle.Rect.{Rect}
use Rattle.geom_core.specs.Rect.{in_rect, area_of, IsInRange}
use Rattle.geom_core.specs.Pieces.{covers, total_area, AreDisjoint, HavePixels, AreInRange}
use Rattle.geom_core.specs.Splits.{with_part, IsSplit, IsCut, IsFront}
use Rattle.geom_core.proofs.RectLemmas.{in_rect-empty}

-- joined lists cover the pixels of both
pub covers-append : (rs ss : List Rect) (x y : ℤ) → covers (rs ++ ss) x y ≡ (covers rs x y || covers ss x y)
covers-append [] ss x y = refl
covers-append (r ∷ rs) ss x y = let e = covers-append rs ss x y in let p = in_rect r x y in grind arith

-- the areas of joined lists add up
pub total_area-append : (rs ss : List Rect) → total_area (rs ++ ss) ≡ total_area rs + total_area ss
total_area-append [] ss = omega arith
total_area-append (r ∷ rs) ss = omega (arith, total_area-append rs ss)

pub HavePixels-append : (rs ss : List Rect) → HavePixels rs → HavePixels ss → HavePixels (rs ++ ss)
HavePixels-append [] ss h k = k
HavePixels-append (r ∷ rs) ss h k = (h.0, HavePixels-append rs ss h.1 k)

pub AreInRange-append : (rs ss : List Rect) → AreInRange rs → AreInRange ss → AreInRange (rs ++ ss)
AreInRange-append [] ss h k = k
AreInRange-append (r ∷ rs) ss h k = (h.0, AreInRange-append rs ss h.1 k)

-- joined lists are disjoint where each is and no pixel is in both
pub AreDisjoint-append : (rs ss : List Rect) → AreDisjoint rs → AreDisjoint ss → ((x y : ℤ) → (covers rs x y && covers ss x y) ≡ false) → AreDisjoint (rs ++ ss)
AreDisjoint-append [] ss h k apart = k
AreDisjoint-append (r ∷ rs) ss h k apart = (
  λ x y. let e = covers-append rs ss x y in let d = apart x y in let f = h.0 x y in let p = in_rect r x y in grind arith,
  AreDisjoint-append rs ss h.1 k (λ x y. let d = apart x y in let p = in_rect r x y in grind arith),
)

-- one more part, kept where it has a pixel
by_part : (P : List Rect → Type 0) (rs : List Rect) (r : Rect) → (area_of r ≡ 0 → P rs) → (0 < area_of r → P (rs ++ r ∷ [])) → P (with_part rs r)
unfolding with_part
by_part P rs r none some = cond_both (eqb (area_of r) 0) rs (rs ++ r ∷ []) P (λ e. none (eqb-true (area_of r) 0 e)) (λ e. some (let d = eqb-false (area_of r) 0 e in grind arith))

pub with_part-some : (rs : List Rect) (r : Rect) → 0 < area_of r → with_part rs r ≡ rs ++ r ∷ []
with_part-some rs r some = by_part (λ (ss : List Rect). ss ≡ rs ++ r ∷ []) rs r (λ e. absurd (omega arith)) (λ h. refl)

pub covers-with_part : (rs : List Rect) (r : Rect) (x y : ℤ) → covers (with_part rs r) x y ≡ (covers rs x y || in_rect r x y)
covers-with_part rs r x y = by_part (λ (ss : List Rect). covers ss x y ≡ (covers rs x y || in_rect r x y)) rs r
    (λ e. let d = in_rect-empty r x y e in let p = in_rect r x y in let q = covers rs x y in grind arith)
    (λ h. let d = covers-append rs (r ∷ []) x y in let p = in_rect r x y in let q = covers rs x y in grind arith)

pub total_area-with_part : (rs : List Rect) (r : Rect) → total_area (with_part rs r) ≡ total_area rs + area_of r
total_area-with_part rs r = by_part (λ (ss : List Rect). total_area ss ≡ total_area rs + area_of r) rs r
    (λ e. omega arith) (λ h. omega (arith, total_area-append rs (r ∷ [])))

pub HavePixels-with_part : (rs : List Rect) (r : Rect) → HavePixels rs → HavePixels (with_part rs r)
HavePixels-with_part rs r have = by_part HavePixels rs r (λ e. have) (λ h. HavePixels-append rs (r ∷ []) have (h, tt))

pub AreInRange-with_part : (rs : List Rect) (r : Rect) → AreInRange rs → IsInRange r → AreInRange (with_part rs r)
AreInRange-with_part rs r near one = by_part AreInRange rs r (λ e. near) (λ h. AreInRange-append rs (r ∷ []) near (one, tt))

pub AreDisjoint-with_part : (rs : List Rect) (r : Rect) → AreDisjoint rs → ((x y : ℤ) → (covers rs x y && in_rect r x y) ≡ false) → AreDisjoint (with_part rs r)
AreDisjoint-with_part rs r disjoint apart = by_part AreDisjoint rs r (λ e. disjoint)
    (λ h. AreDisjoint-append rs (r ∷ []) disjoint ((λ x y. let p = in_rect r x y in grind arith), tt) (λ x y. let d = apart x y in let p = in_rect r x y in let q = covers rs x y in grind arith))

pub length-with_part : (rs : List Rect) (r : Rect) → length (with_part rs r) ≤ length rs + 1
length-with_part rs r = by_part (λ (ss : List Rect). length ss ≤ length rs + 1) rs r (λ e. omega arith) (λ h. omega (arith, length-append rs (r ∷ [])))

cut_bits : (a r m b l s c i u : Bool) → a ≡ (u || r) → (u && r) ≡ false → r ≡ (m || b) → (m && b) ≡ false → m ≡ (l || s) → (l && s) ≡ false → s ≡ (c || i) → (c && i) ≡ false → (((u || l) || i) || b) ≡ (a && not c)
cut_bits a r m b l s c i u e0 e1 e2 e3 e4 e5 e6 e7 = grind arith

left_bits : (r m b l s u : Bool) → (u && r) ≡ false → r ≡ (m || b) → m ≡ (l || s) → (u && l) ≡ false
left_bits r m b l s u e0 e1 e2 = grind arith

right_bits : (r m b l s c i u : Bool) → (u && r) ≡ false → r ≡ (m || b) → m ≡ (l || s) → (l && s) ≡ false → s ≡ (c || i) → ((u || l) && i) ≡ false
right_bits r m b l s c i u e0 e1 e2 e3 e4 = grind arith

below_bits : (r m b l s c i u : Bool) → (u && r) ≡ false → r ≡ (m || b) → (m && b) ≡ false → m ≡ (l || s) → s ≡ (c || i) → (((u || l) || i) && b) ≡ false
below_bits r m b l s c i u e0 e1 e2 e3 e4 = grind arith

-- what four splits around a hole leave
pub IsCut-from_splits : (a hole above rest middle below left others right : Rect) → IsInRange a → IsSplit a above rest → IsSplit rest middle below → IsSplit middle left others → IsSplit others hole right → IsCut a hole (with_part (with_part (with_part (with_part [] above) left) right) below)
IsCut-from_splits a hole above rest middle below left others right near one two three four =
    let p1 = with_part [] above in
    let p2 = with_part p1 left in
    let p3 = with_part p2 right in
    let c1 = λ (x y : ℤ). covers-with_part [] above x y in
    let c2 = λ (x y : ℤ). covers-with_part p1 left x y ∙ ap (λ t. t || in_rect left x y) (c1 x y) in
    let c3 = λ (x y : ℤ). covers-with_part p2 right x y ∙ ap (λ t. t || in_rect right x y) (c2 x y) in
    record {
      pixels = λ x y.
          covers-with_part p3 below x y ∙ ap (λ t. t || in_rect below x y) (c3 x y)
          ∙ cut_bits (in_rect a x y) (in_rect rest x y) (in_rect middle x y) (in_rect below x y) (in_rect left x y) (in_rect others x y) (in_rect hole x y) (in_rect right x y) (in_rect above x y) (one.pixels x y) (one.apart x y) (two.pixels x y) (two.apart x y) (three.pixels x y) (three.apart x y) (four.pixels x y) (four.apart x y);
      disjoint = AreDisjoint-with_part p3 below (AreDisjoint-with_part p2 right (AreDisjoint-with_part p1 left (AreDisjoint-with_part [] above tt (λ x y. refl))
          (λ x y. ap (λ t. t && in_rect left x y) (c1 x y) ∙ left_bits (in_rect rest x y) (in_rect middle x y) (in_rect below x y) (in_rect left x y) (in_rect others x y) (in_rect above x y) (one.apart x y) (two.pixels x y) (three.pixels x y)))
          (λ x y. ap (λ t. t && in_rect right x y) (c2 x y) ∙ right_bits (in_rect rest x y) (in_rect middle x y) (in_rect below x y) (in_rect left x y) (in_rect others x y) (in_rect hole x y) (in_rect right x y) (in_rect above x y) (one.apart x y) (two.pixels x y) (three.pixels x y) (three.apart x y) (four.pixels x y)))
          (λ x y. ap (λ t. t && in_rect below x y) (c3 x y) ∙ below_bits (in_rect rest x y) (in_rect middle x y) (in_rect below x y) (in_rect left x y) (in_rect others x y) (in_rect hole x y) (in_rect right x y) (in_rect above x y) (one.apart x y) (two.pixels x y) (two.apart x y) (three.pixels x y) (four.pixels x y));
      filled = HavePixels-with_part p3 below (HavePixels-with_part p2 right (HavePixels-with_part p1 left (HavePixels-with_part [] above tt)));
      in_range = AreInRange-with_part p3 below (AreInRange-with_part p2 right (AreInRange-with_part p1 left (AreInRange-with_part [] above tt one.first_in_range) three.first_in_range) four.second_in_range) two.second_in_range;
      areas = omega (arith, total_area-with_part p3 below, total_area-with_part p2 right, total_area-with_part p1 left, total_area-with_part [] above, one.areas, two.areas, three.areas, four.areas);
      count = omega (arith, length-with_part p3 below, length-with_part p2 right, length-with_part p1 left, length-with_part [] above);
    }

-- an empty hole leaves the whole
pub IsCut-from_empty : (a hole : Rect) → IsInRange a → area_of hole ≡ 0 → IsCut a hole (with_part [] a)
IsCut-from_empty a hole near none = record {
  pixels = λ x y. let d = in_rect-empty hole x y none in let e = covers-with_part [] a x y in let p = in_rect a x y in grind arith;
  disjoint = AreDisjoint-with_part [] a tt (λ x y. refl);
  filled = HavePixels-with_part [] a tt;
  in_range = AreInRange-with_part [] a tt near;
  areas = omega (arith, total_area-with_part [] a, none);
  count = omega (arith, length-with_part [] a);
}

-- what is outside the hole is what is outside b, where the hole is what a and b share
pub outside_bits : (a b hole : Bool) → hole ≡ (a && b) → (a && not hole) ≡ (a && not b)
outside_bits a b hole e = grind arith

front_bits : (a u o m b l r : Bool) → a ≡ (u || o) → o ≡ (m || b) → m ≡ (l || r) → ((u || l) || (r || b)) ≡ a
front_bits a u o m b l r e0 e1 e2 = grind arith

drawn_bits : (u o m b l r : Bool) → (u && o) ≡ false → o ≡ (m || b) → m ≡ (l || r) → (u && l) ≡ false
drawn_bits u o m b l r e0 e1 e2 = grind arith

rest_bits : (m b l r : Bool) → (m && b) ≡ false → m ≡ (l || r) → (r && b) ≡ false
rest_bits m b l r e0 e1 = grind arith

apart_bits : (u o m b l r : Bool) → (u && o) ≡ false → o ≡ (m || b) → (m && b) ≡ false → m ≡ (l || r) → (l && r) ≡ false → ((u || l) && (r || b)) ≡ false
apart_bits u o m b l r e0 e1 e2 e3 e4 = grind arith

-- what three splits leave: the upper rows and the left of the next line, and the right of that line and the lower rows
pub IsFront-from_splits : (a upper others line lower left right : Rect) (n : ℕ) → IsSplit a upper others → IsSplit others line lower → IsSplit line left right → area_of upper + area_of left ≡ n → IsFront a n (with_part (with_part [] upper) left) (with_part (with_part [] right) lower)
IsFront-from_splits a upper others line lower left right n one two three drawn_n =
    let d1 = with_part [] upper in
    let r1 = with_part [] right in
    let drawn = with_part d1 left in
    let rest = with_part r1 lower in
    let cd1 = λ (x y : ℤ). covers-with_part [] upper x y in
    let cr1 = λ (x y : ℤ). covers-with_part [] right x y in
    let cd = λ (x y : ℤ). covers-with_part d1 left x y ∙ ap (λ t. t || in_rect left x y) (cd1 x y) in
    let cr = λ (x y : ℤ). covers-with_part r1 lower x y ∙ ap (λ t. t || in_rect lower x y) (cr1 x y) in
    let areas_d = total_area-with_part d1 left in
    let areas_d1 = total_area-with_part [] upper in
    let areas_r = total_area-with_part r1 lower in
    let areas_r1 = total_area-with_part [] right in
    record {
      pixels = λ x y. covers-append drawn rest x y ∙ ap (λ t. t || covers rest x y) (cd x y) ∙ ap (λ t. (in_rect upper x y || in_rect left x y) || t) (cr x y)
          ∙ front_bits (in_rect a x y) (in_rect upper x y) (in_rect others x y) (in_rect line x y) (in_rect lower x y) (in_rect left x y) (in_rect right x y) (one.pixels x y) (two.pixels x y) (three.pixels x y);
      disjoint = AreDisjoint-append drawn rest
          (AreDisjoint-with_part d1 left (AreDisjoint-with_part [] upper tt (λ x y. refl))
          (λ x y. ap (λ t. t && in_rect left x y) (cd1 x y) ∙ drawn_bits (in_rect upper x y) (in_rect others x y) (in_rect line x y) (in_rect lower x y) (in_rect left x y) (in_rect right x y) (one.apart x y) (two.pixels x y) (three.pixels x y)))
          (AreDisjoint-with_part r1 lower (AreDisjoint-with_part [] right tt (λ x y. refl))
          (λ x y. ap (λ t. t && in_rect lower x y) (cr1 x y) ∙ rest_bits (in_rect line x y) (in_rect lower x y) (in_rect left x y) (in_rect right x y) (two.apart x y) (three.pixels x y)))
          (λ x y. ap (λ t. t && covers rest x y) (cd x y) ∙ ap (λ t. (in_rect upper x y || in_rect left x y) && t) (cr x y)
          ∙ apart_bits (in_rect upper x y) (in_rect others x y) (in_rect line x y) (in_rect lower x y) (in_rect left x y) (in_rect right x y) (one.apart x y) (two.pixels x y) (two.apart x y) (three.pixels x y) (three.apart x y));
      filled = HavePixels-append drawn rest (HavePixels-with_part d1 left (HavePixels-with_part [] upper tt)) (HavePixels-with_part r1 lower (HavePixels-with_part [] right tt));
      in_range = AreInRange-append drawn rest (AreInRange-with_part d1 left (AreInRange-with_part [] upper tt one.first_in_range) three.first_in_range) (AreInRange-with_part r1 lower (AreInRange-with_part [] right tt three.second_in_range) two.second_in_range);
      drawn_area = omega (arith, areas_d, areas_d1, one.areas, two.areas, three.areas, drawn_n);
      rest_area = omega (arith, areas_r, areas_r1, one.areas, two.areas, three.areas, drawn_n);
    }

or_none : (t : Bool) → (t || false) ≡ t
or_none true = refl
or_none false = refl

-- all of the whole is drawn
pub IsFront-whole : (a : Rect) (n : ℕ) → IsInRange a → area_of a ≤ n → IsFront a n (with_part [] a) []
IsFront-whole a n near all = record {
  pixels = λ x y. covers-append (with_part [] a) [] x y ∙ ap (λ t. t || false) (covers-with_part [] a x y) ∙ or_none (in_rect a x y);
  disjoint = AreDisjoint-append (with_part [] a) [] (AreDisjoint-with_part [] a tt (λ x y. refl)) tt (λ x y. let p = covers (with_part [] a) x y in grind arith);
  filled = HavePixels-append (with_part [] a) [] (HavePixels-with_part [] a tt) tt;
  in_range = AreInRange-append (with_part [] a) [] (AreInRange-with_part [] a tt near) tt;
  drawn_area = omega (arith, total_area-with_part [] a);
  rest_area = omega arith;
}

-- a loop over the rectangles: one more of the first ones
pub covers-take_more : (rs : List Rect) (i : ℕ) (d : Rect) (x y : ℤ) → i < length rs → covers (take (i + 1) rs) x y ≡ (covers (take i rs) x y || in_rect (get_or rs i d) x y)
covers-take_more rs i d x y h =
    ap (λ (ss : List Rect). covers ss x y) (take_more rs i d h)
    ∙ covers-append (take i rs) (get_or rs i d ∷ []) x y
    ∙ ap (λ t. covers (take i rs) x y || t) (or_none (in_rect (get_or rs i d) x y))

pub total_area-take_more : (rs : List Rect) (i : ℕ) (d : Rect) → i < length rs → total_area (take (i + 1) rs) ≡ total_area (take i rs) + area_of (get_or rs i d)
total_area-take_more rs i d h = omega (arith, ap total_area (take_more rs i d h), total_area-append (take i rs) (get_or rs i d ∷ []))

-- each of the rectangles has its pixels among those covered
pub covers-at : (rs : List Rect) (i : ℕ) (d : Rect) (x y : ℤ) → i < length rs → in_rect (get_or rs i d) x y ≡ true → covers rs x y ≡ true
covers-at [] i d x y h e = absurd (omega arith)
covers-at (r ∷ rs) zero d x y h e = or_left (in_rect r x y) (covers rs x y) e
covers-at (r ∷ rs) (suc i) d x y h e = or_right (in_rect r x y) (covers rs x y) (covers-at rs i d x y (omega arith) e)

next_apart : (r rest first next : Bool) → (r && rest) ≡ false → (next ≡ true → rest ≡ true) → (first && next) ≡ false → ((r || first) && next) ≡ false
next_apart true true first next e h k = absurd (false≢true (sym e))
next_apart true false first true e h k = absurd (false≢true (h refl))
next_apart true false first false e h k = refl
next_apart false rest first next e h k = k

-- the first of disjoint rectangles have no pixel of the next
pub AreDisjoint-at : (rs : List Rect) (i : ℕ) (d : Rect) (x y : ℤ) → AreDisjoint rs → i < length rs → (covers (take i rs) x y && in_rect (get_or rs i d) x y) ≡ false
AreDisjoint-at [] i d x y disjoint h = absurd (omega arith)
AreDisjoint-at (r ∷ rs) zero d x y disjoint h = refl
AreDisjoint-at (r ∷ rs) (suc i) d x y disjoint h =
    next_apart (in_rect r x y) (covers rs x y) (covers (take i rs) x y) (in_rect (get_or rs i d) x y) (disjoint.0 x y) (covers-at rs i d x y (omega arith)) (AreDisjoint-at rs i d x y disjoint.1 (omega arith))

-- each rectangle has a pixel, and is within the limit
pub HavePixels-at : (rs : List Rect) (i : ℕ) (d : Rect) → HavePixels rs → i < length rs → 0 < area_of (get_or rs i d)
HavePixels-at [] i d have h = absurd (omega arith)
HavePixels-at (r ∷ rs) zero d have h = have.0
HavePixels-at (r ∷ rs) (suc i) d have h = HavePixels-at rs i d have.1 (omega arith)

pub AreInRange-at : (rs : List Rect) (i : ℕ) (d : Rect) → AreInRange rs → i < length rs → IsInRange (get_or rs i d)
AreInRange-at [] i d near h = absurd (omega arith)
AreInRange-at (r ∷ rs) zero d near h = near.0
AreInRange-at (r ∷ rs) (suc i) d near h = AreInRange-at rs i d near.1 (omega arith)

-- joined lists that are disjoint: each is, and no pixel is in both
pub AreDisjoint-parts : (rs ss : List Rect) → AreDisjoint (rs ++ ss) → AreDisjoint rs × AreDisjoint ss × ((x y : ℤ) → (covers rs x y && covers ss x y) ≡ false)
AreDisjoint-parts [] ss h = (tt, h, λ x y. refl)
AreDisjoint-parts (r ∷ rs) ss h =
    let rest = AreDisjoint-parts rs ss h.1 in (
      (λ x y. let e = covers-append rs ss x y in let f = h.0 x y in let p = in_rect r x y in grind arith, rest.0),
      rest.1,
      λ x y. let e = covers-append rs ss x y in let f = h.0 x y in let g = rest.2 x y in let p = in_rect r x y in grind arith,
    )

pub HavePixels-parts : (rs ss : List Rect) → HavePixels (rs ++ ss) → HavePixels rs × HavePixels ss
HavePixels-parts [] ss h = (tt, h)
HavePixels-parts (r ∷ rs) ss h = let rest = HavePixels-parts rs ss h.1 in ((h.0, rest.0), rest.1)

-- Parts of the screen put into a list, one after another: what a band has on the screen.
use Rattle.std.proofs.Common.{◌≡◌, ℕ, zero, suc, ◌+◌, ◌*◌, ◌<◌, ◌≤◌, ℤ, pos, ◌+ℤ◌, Bool, true, false, cond, ◌&&◌, ◌||◌, List, [], ◌∷◌, ◌++◌, refl, sym, ap, ◌∙◌, arith}
use Rattle.std.proofs.lemmas.Bool.{and_parts}
use Rattle.std.proofs.lemmas.Int.{ints}
use Rattle.std.proofs.lemmas.List.{length-append}
use Rattle.geom_core.specs.declared.rectangle.Rect.{Rect}
use Rattle.geom_core.specs.Rect.{in_span, in_rect, area_of, IsInRange}
use Rattle.geom_core.specs.Pieces.{covers, total_area, AreDisjoint}
use Rattle.geom_core.specs.Count.{count_span, count_rows, screen_of}
use Rattle.geom_core.proofs.SpanLemmas.{in_span-true}
use Rattle.geom_core.proofs.RectLemmas.{in_rect-corner, in_rect-empty}
use Rattle.geom_core.proofs.PieceLemmas.{covers-append, HavePixels-append, AreDisjoint-append}
use Rattle.geom_core.proofs.CountLemmas.{count_in-covers}
use Rattle.vscreen_core.specs.declared.band.Band.{Band}
use Rattle.scene_model.specs.Bands.{in_band}
use Rattle.painter_core.specs.Runs.{AreRuns, AreParts, IsPut}

or_none : (a : Bool) → (a || false) ≡ a
or_none true = refl
or_none false = refl

and_none : (a : Bool) → (a && false) ≡ false
and_none true = refl
and_none false = refl

-- a part of which the screen has something
pub IsPut-some : (part screen seen : Rect) (old : List Rect) → ((x y : ℤ) → in_rect seen x y ≡ (in_rect part x y && in_rect screen x y)) → 0 < area_of seen → IsPut part screen old (old ++ seen ∷ [])
IsPut-some part screen seen old shares some = record {
  pixels = λ x y. covers-append old (seen ∷ []) x y ∙ ap (λ (t : Bool). covers old x y || t) (or_none (in_rect seen x y) ∙ shares x y);
  disjoint = λ apart beside. AreDisjoint-append old (seen ∷ []) apart (λ x y. and_none (in_rect seen x y), tt)
      (λ x y. ap (λ (t : Bool). covers old x y && t) (or_none (in_rect seen x y) ∙ shares x y) ∙ beside x y);
  filled = λ have. HavePixels-append old (seen ∷ []) have (some, tt);
  count = omega (arith, length-append old (seen ∷ []));
}

-- one of which it has nothing
pub IsPut-none : (part screen seen : Rect) (old : List Rect) → ((x y : ℤ) → in_rect seen x y ≡ (in_rect part x y && in_rect screen x y)) → area_of seen ≡ 0 → IsPut part screen old old
IsPut-none part screen seen old shares none = record {
  pixels = λ x y. sym (ap (λ (t : Bool). covers old x y || t) (sym (shares x y) ∙ in_rect-empty seen x y none) ∙ or_none (covers old x y));
  disjoint = λ apart beside. apart;
  filled = λ have. have;
  count = omega arith;
}

put_three : (f m l s t : Bool) → t ≡ ((f || m) || l) → ((((false || (f && s)) || (m && s)) || (l && s)) ≡ (s && t))
put_three f m l s t e = grind arith

put_second : (f m s : Bool) → (f && m) ≡ false → ((false || (f && s)) && (m && s)) ≡ false
put_second f m s e = grind arith

put_third : (f m l s : Bool) → ((f || m) && l) ≡ false → (((false || (f && s)) || (m && s)) && (l && s)) ≡ false
put_third f m l s e = grind arith

-- the three runs of a band, put one after another
pub AreParts-runs : (film screen : Rect) (band clip : Band) (first middle last : Rect) (one two three : List Rect) → AreRuns film clip first middle last → ((x y : ℤ) → in_band film clip x y ≡ in_band film band x y) → IsPut first screen [] one → IsPut middle screen one two → IsPut last screen two three → AreParts (λ x y. in_rect screen x y && in_band film band x y) three
AreParts-runs film screen band clip first middle last one two three runs same a b c =
    let ones = λ (x y : ℤ). a.pixels x y in
    let twos = λ (x y : ℤ). b.pixels x y ∙ ap (λ (t : Bool). t || (in_rect middle x y && in_rect screen x y)) (a.pixels x y) in
    let threes = λ (x y : ℤ). c.pixels x y ∙ ap (λ (t : Bool). t || (in_rect last x y && in_rect screen x y)) (twos x y) in
    record {
      pixels = λ x y. threes x y ∙ put_three (in_rect first x y) (in_rect middle x y) (in_rect last x y) (in_rect screen x y) (in_band film band x y) (sym (same x y) ∙ runs.pixels x y);
      disjoint = c.disjoint
          (b.disjoint (a.disjoint tt (λ x y. refl))
          (λ x y. ap (λ (t : Bool). t && (in_rect middle x y && in_rect screen x y)) (ones x y) ∙ put_second (in_rect first x y) (in_rect middle x y) (in_rect screen x y) (runs.upper_apart x y)))
          (λ x y. ap (λ (t : Bool). t && (in_rect last x y && in_rect screen x y)) (twos x y) ∙ put_third (in_rect first x y) (in_rect middle x y) (in_rect last x y) (in_rect screen x y) (runs.lower_apart x y));
      filled = c.filled (b.filled (a.filled tt));
    }

off_bits : (f s n : Bool) → (f && s) ≡ false → false ≡ (s && (f && n))
off_bits f s n e = grind arith

-- a film of which the screen has nothing
pub AreParts-none : (film screen seen : Rect) (band : Band) → ((x y : ℤ) → in_rect seen x y ≡ (in_rect film x y && in_rect screen x y)) → area_of seen ≡ 0 → AreParts (λ x y. in_rect screen x y && in_band film band x y) []
unfolding in_band
AreParts-none film screen seen band shares none = record {
  pixels = λ x y. off_bits (in_rect film x y) (in_rect screen x y) _ (sym (shares x y) ∙ in_rect-empty seen x y none);
  disjoint = tt;
  filled = tt;
}

-- a film of which the screen has something lies within the limit of coordinates
pub IsInRange-seen : (film seen : Rect) (width height : ℕ) → film.w ≤ 256 → film.h ≤ 256 → width ≤ 1024 → height ≤ 768 → ((x y : ℤ) → in_rect seen x y ≡ (in_rect film x y && in_rect (screen_of width height) x y)) → 0 < area_of seen → IsInRange film
IsInRange-seen film seen width height wide high across down shares some =
    let corner = in_rect-corner seen some in
    let both = and_parts (in_rect film seen.x seen.y) (in_rect (screen_of width height) seen.x seen.y) (sym (shares seen.x seen.y) ∙ corner) in
    let on_film = and_parts (in_span film.x film.w seen.x) (in_span film.y film.h seen.y) both.0 in
    let on = and_parts (in_span (pos 0) width seen.x) (in_span (pos 0) height seen.y) both.1 in
    let fx = in_span-true film.x film.w seen.x on_film.0 in
    let fy = in_span-true film.y film.h seen.y on_film.1 in
    let sx = in_span-true (pos 0) width seen.x on.0 in
    let sy = in_span-true (pos 0) height seen.y on.1 in
    record {
      across = record { least = omega (arith, ints, fx.1, sx.0, wide); greatest = omega (arith, ints, fx.0, sx.1, wide, across); start = omega (arith, ints, fx.0, sx.1, across); size = omega (arith, wide) };
      down = record { least = omega (arith, ints, fy.1, sy.0, high); greatest = omega (arith, ints, fy.0, sy.1, high, down); start = omega (arith, ints, fy.0, sy.1, down); size = omega (arith, high) };
    }

-- a box has no more pixels that pass a test than pixels
count_span-most : (test : ℤ → Bool) (from : ℤ) (n : ℕ) → count_span test from n ≤ n
count_span-most test from zero = omega arith
count_span-most test from (suc n) = omega (arith, count_span-most test from n, one (test (from +ℤ pos n)))
  where
    one : (b : Bool) → cond {A = ℕ} b 1 0 ≤ 1
    one true = omega arith
    one false = omega arith

pub count_rows-most : (test : ℤ → ℤ → Bool) (x : ℤ) (w : ℕ) (y : ℤ) (rows : ℕ) → count_rows test x w y rows ≤ w * rows
count_rows-most test x w y zero = omega arith
count_rows-most test x w y (suc rows) =
    let more : w * suc rows ≡ w * rows + w = omega arith in
    omega (arith, more, count_rows-most test x w y rows, count_span-most (λ p. test p (y +ℤ pos rows)) x w)

-- disjoint parts of a box have no more pixels than the box
pub total_area-most : (parts : List Rect) (box : Rect) → AreDisjoint parts → ((x y : ℤ) → covers parts x y ≡ true → in_rect box x y ≡ true) → total_area parts ≤ area_of box
total_area-most parts box apart inside = omega (arith, count_in-covers parts box apart inside, count_rows-most (covers parts) box.x box.w box.y box.h)

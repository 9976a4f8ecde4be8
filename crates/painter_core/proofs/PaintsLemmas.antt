-- Pieces painted: under other trails, one after another, and the whole that they make.
use Rattle.std.proofs.Common.{◌≡◌, ℕ, ◌+◌, ℤ, Bool, true, false, ◌&&◌, ◌||◌, List, [], ◌∷◌, refl, sym, ap, ◌∙◌, arith}
use Rattle.std.specs.Prelude.{Option, Some, None}
use Rattle.canvas_core.specs.Screen.{Screen, IsScreen}
use Rattle.geom_core.specs.declared.rectangle.Rect.{Rect}
use Rattle.geom_core.specs.Rect.{in_rect, area_of, IsInside}
use Rattle.geom_core.specs.Pieces.{covers, total_area}
use Rattle.geom_core.specs.Count.{count_in}
use Rattle.geom_core.proofs.CountLemmas.{count_in-same, count_in-parts, count_in-rect, count_rows-none}
use Rattle.painter_core.specs.Layers.{Layers}
use Rattle.painter_core.specs.Trail.{last_of, is_wanted}
use Rattle.painter_core.specs.Painted.{Filled, Paints, PaintsAll, HasOneTrail, wanted_of, colour_by}
use Rattle.painter_core.proofs.PaintedLemmas.{Painted-none, Painted-same, Painted-then}

and_same : (a b c : Bool) → (a ≡ true → b ≡ c) → (a && b) ≡ (a && c)
and_same true b c e = e refl
and_same false b c e = refl

and_first : (a b : Bool) → (a && b) ≡ true → a ≡ true
and_first true b e = refl
and_first false b e = e

-- the same piece, with trails that end at the same widgets
pub Paints-same : (layers : Layers) (only under other : Option ℕ) (way path : ℤ → ℤ → List ℕ) (piece : Rect) (n : ℕ) (old new : Screen) → Paints layers only under way piece n old new → ((x y : ℤ) → in_rect piece x y ≡ true → last_of other (path x y) ≡ last_of under (way x y)) → (HasOneTrail path piece → HasOneTrail way piece) → Paints layers only other path piece n old new
Paints-same layers only under other way path piece n old new a ends one =
    let sets = λ (x y : ℤ). and_same (in_rect piece x y) (is_wanted only (last_of other (path x y))) (is_wanted only (last_of under (way x y))) (λ e. ap (λ top. is_wanted only top) (ends x y e)) in
    record {
      painted = Painted-same (wanted_of only under way (in_rect piece)) (wanted_of only other path (in_rect piece)) (colour_by layers under way) (colour_by layers other path) n old new a.painted sets
          (λ x y e. ap (λ top. layers.colour top x y) (ends x y (and_first (in_rect piece x y) (is_wanted only (last_of under (way x y))) e)));
      counted = λ box inside. a.counted box inside ∙ sym (count_in-same (wanted_of only other path (in_rect piece)) (wanted_of only under way (in_rect piece)) box (λ x y e. sets x y));
      few = a.few;
      at_once = λ e h. a.at_once e (one h);
    }

and_true : (a b : Bool) → b ≡ true → (a && b) ≡ a
and_true true b e = e
and_true false b e = refl

and_false : (a b : Bool) → b ≡ false → (a && b) ≡ false
and_false true b e = e
and_false false b e = refl

-- a piece that one widget shows, or none does, and that is wanted
pub Paints-filled : (layers : Layers) (only under : Option ℕ) (piece : Rect) (old new : Screen) → Filled (layers.colour under) piece old new → is_wanted only under ≡ true → Paints layers only under (λ x y. []) piece (area_of piece) old new
Paints-filled layers only under piece old new a wanted = record {
  painted = Painted-same (in_rect piece) (wanted_of only under (λ x y. []) (in_rect piece)) (layers.colour under) (colour_by layers under (λ x y. [])) (area_of piece) old new a.painted
      (λ x y. and_true (in_rect piece x y) (is_wanted only under) wanted) (λ x y e. refl);
  counted = λ box inside. sym (count_in-rect piece box inside) ∙ sym (count_in-same (wanted_of only under (λ x y. []) (in_rect piece)) (in_rect piece) box (λ x y e. and_true (in_rect piece x y) (is_wanted only under) wanted));
  few = omega arith;
  at_once = λ e h. a.spans;
}

none_counted : (set : ℤ → ℤ → Bool) (box : Rect) → ((x y : ℤ) → set x y ≡ false) → 0 ≡ count_in set box
none_counted set box none = sym (count_rows-none set box.x box.w box.y box.h none)

all_wanted : (only under : Option ℕ) → only ≡ None → is_wanted only under ≡ false → ⊥
all_wanted None under e f = cc
all_wanted (Some id) under e f = cc

-- one that isn't
pub Paints-unwanted : (layers : Layers) (only under : Option ℕ) (piece : Rect) (screen : Screen) → IsScreen screen → is_wanted only under ≡ false → Paints layers only under (λ x y. []) piece 0 screen screen
Paints-unwanted layers only under piece screen valid unwanted =
    let none = λ (x y : ℤ). and_false (in_rect piece x y) (is_wanted only under) unwanted in
    record {
      painted = Painted-none (wanted_of only under (λ x y. []) (in_rect piece)) (colour_by layers under (λ x y. [])) screen valid none;
      counted = λ box inside. none_counted (wanted_of only under (λ x y. []) (in_rect piece)) box none;
      few = omega arith;
      at_once = λ e h. absurd (all_wanted only under e unwanted);
    }

-- no pieces
pub PaintsAll-none : (layers : Layers) (only under : Option ℕ) (way : ℤ → ℤ → List ℕ) (screen : Screen) → IsScreen screen → PaintsAll layers only under way [] 0 screen screen
PaintsAll-none layers only under way screen valid = record {
  painted = Painted-none (wanted_of only under way (covers [])) (colour_by layers under way) screen valid (λ x y. refl);
  counted = λ box inside. none_counted (wanted_of only under way (covers [])) box (λ x y. refl);
  few = omega arith;
}

or_false : (a : Bool) → (a || false) ≡ a
or_false true = refl
or_false false = refl

-- the first of several pieces
pub PaintsAll-one : (layers : Layers) (only under : Option ℕ) (way : ℤ → ℤ → List ℕ) (piece : Rect) (n : ℕ) (old new : Screen) → Paints layers only under way piece n old new → PaintsAll layers only under way (piece ∷ []) n old new
PaintsAll-one layers only under way piece n old new a =
    let sets = λ (x y : ℤ). ap (λ b. b && is_wanted only (last_of under (way x y))) (or_false (in_rect piece x y)) in
    record {
      painted = Painted-same (wanted_of only under way (in_rect piece)) (wanted_of only under way (covers (piece ∷ []))) (colour_by layers under way) (colour_by layers under way) n old new a.painted sets (λ x y e. refl);
      counted = λ box inside. a.counted box (λ x y e. inside x y (or_false (in_rect piece x y) ∙ e)) ∙ sym (count_in-same (wanted_of only under way (covers (piece ∷ []))) (wanted_of only under way (in_rect piece)) box (λ x y e. sets x y));
      few = omega (arith, a.few);
    }

parts_bits : (t a b w : Bool) → t ≡ (a || b) → (t && w) ≡ ((a && w) || (b && w))
parts_bits t a b w e = grind arith

apart_bits : (a b w : Bool) → (a && b) ≡ false → ((a && w) && (b && w)) ≡ false
apart_bits a b w e = grind arith

or_first : (t a b : Bool) → t ≡ (a || b) → a ≡ true → t ≡ true
or_first t a b e f = grind arith

or_second : (t a b : Bool) → t ≡ (a || b) → b ≡ true → t ≡ true
or_second t a b e f = grind arith

-- one piece more
pub PaintsAll-then : (layers : Layers) (only under : Option ℕ) (way : ℤ → ℤ → List ℕ) (pieces all : List Rect) (piece : Rect) (n m : ℕ) (old mid new : Screen) → PaintsAll layers only under way pieces n old mid → Paints layers only under way piece m mid new → ((x y : ℤ) → covers all x y ≡ (covers pieces x y || in_rect piece x y)) → ((x y : ℤ) → (covers pieces x y && in_rect piece x y) ≡ false) → total_area all ≡ total_area pieces + area_of piece → PaintsAll layers only under way all (n + m) old new
PaintsAll-then layers only under way pieces all piece n m old mid new a b joined apart areas =
    let wanted = λ (x y : ℤ). is_wanted only (last_of under (way x y)) in
    let parts = λ (x y : ℤ). parts_bits (covers all x y) (covers pieces x y) (in_rect piece x y) (wanted x y) (joined x y) in
    record {
      painted = Painted-then (wanted_of only under way (covers pieces)) (wanted_of only under way (in_rect piece)) (wanted_of only under way (covers all)) (colour_by layers under way) n m old mid new a.painted b.painted parts;
      counted = λ box inside.
          let first = a.counted box (λ x y e. inside x y (or_first (covers all x y) (covers pieces x y) (in_rect piece x y) (joined x y) e)) in
          let second = b.counted box (λ x y e. inside x y (or_second (covers all x y) (covers pieces x y) (in_rect piece x y) (joined x y) e)) in
          let sum = count_in-parts (wanted_of only under way (covers all)) (wanted_of only under way (covers pieces)) (wanted_of only under way (in_rect piece)) box (λ x y e. parts x y) (λ x y e. apart_bits (covers pieces x y) (in_rect piece x y) (wanted x y) (apart x y)) in
          omega (arith, first, second, sum);
      few = omega (arith, a.few, b.few, areas);
    }

-- the whole that the pieces make
pub Paints-whole : (layers : Layers) (only under : Option ℕ) (way : ℤ → ℤ → List ℕ) (pieces : List Rect) (piece : Rect) (n : ℕ) (old new : Screen) → PaintsAll layers only under way pieces n old new → ((x y : ℤ) → covers pieces x y ≡ in_rect piece x y) → total_area pieces ≡ area_of piece → (only ≡ None → HasOneTrail way piece → new.spans ≡ old.spans + piece.h) → Paints layers only under way piece n old new
Paints-whole layers only under way pieces piece n old new a same areas spans =
    let sets = λ (x y : ℤ). ap (λ b. b && is_wanted only (last_of under (way x y))) (sym (same x y)) in
    record {
      painted = Painted-same (wanted_of only under way (covers pieces)) (wanted_of only under way (in_rect piece)) (colour_by layers under way) (colour_by layers under way) n old new a.painted sets (λ x y e. refl);
      counted = λ box inside. a.counted box (λ x y e. inside x y (sym (same x y) ∙ e)) ∙ sym (count_in-same (wanted_of only under way (in_rect piece)) (wanted_of only under way (covers pieces)) box (λ x y e. sets x y));
      few = omega (arith, a.few, areas);
      at_once = spans;
    }

-- the same piece, with the same trails
pub Paints-agree : (layers : Layers) (only under : Option ℕ) (way path : ℤ → ℤ → List ℕ) (piece : Rect) (n : ℕ) (old new : Screen) → Paints layers only under way piece n old new → ((x y : ℤ) → in_rect piece x y ≡ true → path x y ≡ way x y) → Paints layers only under path piece n old new
Paints-agree layers only under way path piece n old new a agree =
    Paints-same layers only under under way path piece n old new a (λ x y e. ap (λ ids. last_of under ids) (agree x y e)) (λ one x y u v e f. sym (agree x y e) ∙ one x y u v e f ∙ agree u v f)

tails : (id : ℕ) (a b : List ℕ) → id ∷ a ≡ id ∷ b → a ≡ b
tails id a b e = cc

-- where all trails go through one widget, those from there on are equal too
pub HasOneTrail-below : (way path : ℤ → ℤ → List ℕ) (piece : Rect) (id : ℕ) → ((x y : ℤ) → in_rect piece x y ≡ true → path x y ≡ id ∷ way x y) → HasOneTrail path piece → HasOneTrail way piece
HasOneTrail-below way path piece id through one x y u v e f = tails id (way x y) (way u v) (sym (through x y e) ∙ one x y u v e f ∙ through u v f)

-- a piece painted below a widget, as seen from above it
pub Paints-below : (layers : Layers) (only under : Option ℕ) (id : ℕ) (way path : ℤ → ℤ → List ℕ) (piece : Rect) (n : ℕ) (old new : Screen) → Paints layers only (Some id) way piece n old new → ((x y : ℤ) → in_rect piece x y ≡ true → path x y ≡ id ∷ way x y) → Paints layers only under path piece n old new
Paints-below layers only under id way path piece n old new a through =
    Paints-same layers only (Some id) under way path piece n old new a (λ x y e. ap (λ ids. last_of under ids) (through x y e)) (HasOneTrail-below way path piece id through)

-- what is inside a piece with one trail has one too
pub one_inside : (way : ℤ → ℤ → List ℕ) (inner piece : Rect) → IsInside inner piece → HasOneTrail way piece → HasOneTrail way inner
one_inside way inner piece inside one x y u v e f = one x y u v (inside x y e) (inside u v f)

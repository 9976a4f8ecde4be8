-- Dirt taken out of a store: the parts of a rectangle that go back, and what is left.
use Rattle.std.proofs.Common.{◌≡◌, ℕ, zero, suc, ◌+◌, ◌<◌, ◌≤◌, ℤ, pos, Bool, true, false, not, ◌&&◌, ◌||◌, List, [], ◌∷◌, ◌++◌, length, get_or, drop, refl, sym, ap, ◌∙◌, subst, arith, Option, Some, None}
use Rattle.std.proofs.lemmas.List.{drop_more}
use Rattle.std.specs.Option.{IfSome, IfNone}
use Rattle.std.proofs.lemmas.Bool.{or_right, false≢true}
use Rattle.geom_core.specs.declared.rectangle.Rect.{Rect}
use Rattle.geom_core.specs.Rect.{in_rect, area_of}
use Rattle.geom_core.specs.Pieces.{covers, total_area, AreDisjoint, HavePixels}
use Rattle.geom_core.specs.Count.{screen_of}
use Rattle.geom_core.proofs.PieceLemmas.{covers-append, covers-at, HavePixels-at}
use Rattle.redraw_core.specs.Dirt.{Dirt, IsDirt, IsClean, IsTaken, EachPixel, is_dirty}
use Rattle.redraw_core.specs.Stored.{dirty_in, IsKept, IsPiece, IsFresh, Grown, Removed}
use Rattle.redraw_core.proofs.StoreLemmas.{covers-push}

-- ---- the parts from an index on

-- a list from an index on: its first, and the rest
covers-drop_more : (parts : List Rect) (k : ℕ) (d : Rect) (x y : ℤ) → k < length parts → covers (drop k parts) x y ≡ (in_rect (get_or parts k d) x y || covers (drop (k + 1) parts) x y)
covers-drop_more parts k d x y h = ap (λ (rs : List Rect). covers rs x y) (drop_more parts k d h)

AreDisjoint-drop : (parts : List Rect) (k : ℕ) → AreDisjoint parts → AreDisjoint (drop k parts)
AreDisjoint-drop parts zero h = h
AreDisjoint-drop [] (suc k) h = h
AreDisjoint-drop (r ∷ rs) (suc k) h = AreDisjoint-drop rs k h.1

-- what a part from an index on covers, the whole covers
pub covers-drop : (parts : List Rect) (k : ℕ) (x y : ℤ) → covers (drop k parts) x y ≡ true → covers parts x y ≡ true
covers-drop parts zero x y e = e
covers-drop [] (suc k) x y e = e
covers-drop (r ∷ rs) (suc k) x y e = or_right (in_rect r x y) (covers rs x y) (covers-drop rs k x y e)

-- a part behind the index is covered by those from the index on
covers-drop_at : (parts : List Rect) (from k : ℕ) (d : Rect) (x y : ℤ) → from ≤ k → k < length parts → in_rect (get_or parts k d) x y ≡ true → covers (drop from parts) x y ≡ true
covers-drop_at parts zero k d x y h l e = covers-at parts k d x y l e
covers-drop_at [] (suc from) k d x y h l e = absurd (omega arith)
covers-drop_at (r ∷ rs) (suc from) zero d x y h l e = absurd (omega arith)
covers-drop_at (r ∷ rs) (suc from) (suc k) d x y h l e = covers-drop_at rs from k d x y (omega arith) (omega arith) e

-- the part at an index is apart from those behind it
drop-apart : (parts : List Rect) (k : ℕ) (d : Rect) (x y : ℤ) → AreDisjoint parts → k < length parts → (in_rect (get_or parts k d) x y && covers (drop (k + 1) parts) x y) ≡ false
drop-apart parts k d x y disjoint h = (subst AreDisjoint (drop_more parts k d h) (AreDisjoint-drop parts k disjoint)).0 x y

pub IsPiece-drop : (parts : List Rect) (k : ℕ) (d : Rect) (map new : Dirt) → HavePixels parts → k < length parts → ((x y : ℤ) → covers parts x y ≡ true → in_rect (screen_of map.width map.height) x y ≡ true) → new.width ≡ map.width → new.height ≡ map.height → IsPiece (get_or parts k d) new
IsPiece-drop parts k d map new have h inside width height = record {
  some = HavePixels-at parts k d have h;
  inside = rw (width, height) (λ x y e. inside x y (covers-at parts k d x y h e));
}

drop_fresh : (p c t d g : Bool) → g ≡ (d || t) → (p ≡ true → c ≡ true) → (c && d) ≡ false → (p && t) ≡ false → (p && g) ≡ false
drop_fresh true c t d g e f a b = let h = f refl in grind arith
drop_fresh false c t d g e f a b = refl

-- the next part is of clean pixels, where those behind it were placed
pub IsFresh-drop : (parts : List Rect) (from k : ℕ) (d : Rect) (kept : List Rect) (map : Dirt) (more : List Rect) (area : ℕ) (new : Dirt) → AreDisjoint parts → from ≤ k → k < length parts → EachPixel map (λ x y. (covers (drop from parts) (pos x) (pos y) && dirty_in kept map x y) ≡ false) → Grown (covers (drop (k + 1) parts)) kept map more area new → IsFresh (get_or parts k d) more new
IsFresh-drop parts from k d kept map more area new disjoint low high fresh grown = record {
  clean = λ x y hx hy.
      let in_width : x < map.width = omega (arith, grown.width) in
      let in_height : y < map.height = omega (arith, grown.height) in
      drop_fresh (in_rect (get_or parts k d) (pos x) (pos y)) (covers (drop from parts) (pos x) (pos y)) (covers (drop (k + 1) parts) (pos x) (pos y)) (dirty_in kept map x y) (dirty_in more new x y)
      (grown.pixels x y in_width in_height) (covers-drop_at parts from k d (pos x) (pos y) low high) (fresh x y in_width in_height) (drop-apart parts k d (pos x) (pos y) disjoint high);
}

or_swap : (p c t : Bool) → c ≡ (p || t) → c ≡ (t || p)
or_swap p c t e = grind arith

pub drop_joined : (parts : List Rect) (k : ℕ) (d : Rect) (x y : ℤ) → k < length parts → covers (drop k parts) x y ≡ (covers (drop (k + 1) parts) x y || in_rect (get_or parts k d) x y)
drop_joined parts k d x y h = or_swap (in_rect (get_or parts k d) x y) (covers (drop k parts) x y) (covers (drop (k + 1) parts) x y) (covers-drop_more parts k d x y h)

-- ---- a rectangle's front taken

-- an area above 0 needs a rectangle, and the first is no larger than all
pub first_area : (parts : List Rect) (d : Rect) → 0 < total_area parts → (0 < length parts) × (area_of (get_or parts 0 d) ≤ total_area parts)
first_area [] d h = absurd (omega arith)
first_area (r ∷ rs) d h = (omega arith, omega arith)

rest_bits : (r p d a w : Bool) → a ≡ (d || r) → a ≡ w → (w && p) ≡ false → (r && p) ≡ false
rest_bits r p d a w e f g = grind arith

-- the rest of the rectangle is of clean pixels
pub rest_fresh : (drawn rest : List Rect) (rect : Rect) (kept : List Rect) (map : Dirt) → ((x y : ℤ) → covers (drawn ++ rest) x y ≡ in_rect rect x y) → IsFresh rect kept map → EachPixel map (λ x y. (covers (drop 0 rest) (pos x) (pos y) && dirty_in kept map x y) ≡ false)
rest_fresh drawn rest rect kept map whole fresh = λ x y hx hy.
    rest_bits (covers rest (pos x) (pos y)) (dirty_in kept map x y) (covers drawn (pos x) (pos y)) (covers (drawn ++ rest) (pos x) (pos y)) (in_rect rect (pos x) (pos y))
    (covers-append drawn rest (pos x) (pos y)) (whole (pos x) (pos y)) (fresh.clean x y hx hy)

drawn_bits : (r p d a w g o : Bool) → a ≡ (d || r) → a ≡ w → (w && p) ≡ false → (d && r) ≡ false → g ≡ (p || r) → (o ≡ true → d ≡ true) → (o && g) ≡ false
drawn_bits r p d a w g true e f h i j k = let m = k refl in grind arith
drawn_bits r p d a w g false e f h i j k = refl

-- and so is what is drawn, past its first rectangle, once the rest was placed
pub drawn_fresh : (drawn rest : List Rect) (rect : Rect) (kept : List Rect) (map : Dirt) (more : List Rect) (area : ℕ) (new : Dirt) → ((x y : ℤ) → covers (drawn ++ rest) x y ≡ in_rect rect x y) → ((x y : ℤ) → (covers drawn x y && covers rest x y) ≡ false) → IsFresh rect kept map → Grown (covers (drop 0 rest)) kept map more area new → EachPixel new (λ x y. (covers (drop 1 drawn) (pos x) (pos y) && dirty_in more new x y) ≡ false)
drawn_fresh drawn rest rect kept map more area new whole cross fresh grown = λ x y hx hy.
    let in_width : x < map.width = omega (arith, grown.width) in
    let in_height : y < map.height = omega (arith, grown.height) in
    drawn_bits (covers rest (pos x) (pos y)) (dirty_in kept map x y) (covers drawn (pos x) (pos y)) (covers (drawn ++ rest) (pos x) (pos y)) (in_rect rect (pos x) (pos y)) (dirty_in more new x y) (covers (drop 1 drawn) (pos x) (pos y))
    (covers-append drawn rest (pos x) (pos y)) (whole (pos x) (pos y)) (fresh.clean x y in_width in_height) (cross (pos x) (pos y)) (grown.pixels x y in_width in_height) (covers-drop drawn 1 (pos x) (pos y))

removed_bits : (k m f o d r a w g n t : Bool) → t ≡ (k || w) → a ≡ (d || r) → a ≡ w → d ≡ (f || o) → (f && o) ≡ false → (d && r) ≡ false → (w && (k || m)) ≡ false → g ≡ ((k || m) || r) → n ≡ (g || o) → n ≡ ((t || m) && not f)
removed_bits k m f o d r true w g n t e1 e2 e3 e4 e5 e6 e7 e8 e9 = grind arith
removed_bits k m f o d r false w g n t e1 e2 e3 e4 e5 e6 e7 e8 e9 = grind arith

were_bits : (k m f o d r a w t : Bool) → t ≡ (k || w) → a ≡ (d || r) → a ≡ w → d ≡ (f || o) → f ≡ true → (t || m) ≡ true
were_bits k m f o d r a w t e1 e2 e3 e4 e5 = grind arith

among_bits : (f o d r a w : Bool) → a ≡ (d || r) → a ≡ w → d ≡ (f || o) → f ≡ true → w ≡ true
among_bits f o d r a w e2 e3 e4 e5 = grind arith

-- what is taken, and what went back
pub Removed-front : (n : ℕ) (drawn rest : List Rect) (d rect : Rect) (kept : List Rect) (map : Dirt) (more : List Rect) (area : ℕ) (mid : Dirt) (most : List Rect) (sum : ℕ) (new : Dirt) → ((x y : ℤ) → covers (drawn ++ rest) x y ≡ in_rect rect x y) → AreDisjoint drawn → HavePixels drawn → ((x y : ℤ) → (covers drawn x y && covers rest x y) ≡ false) → 0 < length drawn → area_of (get_or drawn 0 d) ≤ n → IsPiece rect map → IsFresh rect kept map → Grown (covers (drop 0 rest)) kept map more area mid → Grown (covers (drop 1 drawn)) more mid most sum new → Removed n (get_or drawn 0 d) (kept ++ rect ∷ []) map most sum new
Removed-front n drawn rest d rect kept map more area mid most sum new whole disjoint filled cross some few piece fresh first second =
    let head = get_or drawn 0 d in
    let split = λ (x y : ℤ). covers-drop_more drawn 0 d x y some in
    record {
      is = second.is;
      width = second.width ∙ first.width;
      height = second.height ∙ first.height;
      least = HavePixels-at drawn 0 d filled some;
      most = few;
      inside = λ x y e. piece.inside x y (among_bits (in_rect head x y) (covers (drop 1 drawn) x y) (covers drawn x y) (covers rest x y) (covers (drawn ++ rest) x y) (in_rect rect x y) (covers-append drawn rest x y) (whole x y) (split x y) e);
      were_dirty = λ x y hx hy e.
          were_bits (covers kept (pos x) (pos y)) (is_dirty map x y) (in_rect head (pos x) (pos y)) (covers (drop 1 drawn) (pos x) (pos y)) (covers drawn (pos x) (pos y)) (covers rest (pos x) (pos y)) (covers (drawn ++ rest) (pos x) (pos y)) (in_rect rect (pos x) (pos y)) (covers (kept ++ rect ∷ []) (pos x) (pos y))
          (covers-push kept rect (pos x) (pos y)) (covers-append drawn rest (pos x) (pos y)) (whole (pos x) (pos y)) (split (pos x) (pos y)) e;
      pixels = λ x y hx hy.
          let in_width : x < mid.width = omega (arith, first.width) in
          let in_height : y < mid.height = omega (arith, first.height) in
          removed_bits (covers kept (pos x) (pos y)) (is_dirty map x y) (in_rect head (pos x) (pos y)) (covers (drop 1 drawn) (pos x) (pos y)) (covers drawn (pos x) (pos y)) (covers rest (pos x) (pos y)) (covers (drawn ++ rest) (pos x) (pos y)) (in_rect rect (pos x) (pos y)) (dirty_in more mid x y) (dirty_in most new x y) (covers (kept ++ rect ∷ []) (pos x) (pos y))
          (covers-push kept rect (pos x) (pos y)) (covers-append drawn rest (pos x) (pos y)) (whole (pos x) (pos y)) (split (pos x) (pos y)) (drop-apart drawn 0 d (pos x) (pos y) disjoint some) (cross (pos x) (pos y)) (fresh.clean x y hx hy) (first.pixels x y hx hy) (second.pixels x y in_width in_height);
    }

-- ---- a run of the map taken

-- where nothing is kept, any map will do
nothing_kept : (area : ℕ) (map new : Dirt) → IsKept [] area map → IsDirt new → IsKept [] area new
nothing_kept area map new is valid = record {
  valid = valid;
  disjoint = tt;
  filled = tt;
  on_screen = λ x y e. absurd (false≢true e);
  apart = λ x y hx hy. refl;
  sum = is.sum;
}

pub IsKept-run : (kept : List Rect) (area : ℕ) (map new : Dirt) → kept ≡ [] → IsKept kept area map → IsDirt new → IsKept kept area new
IsKept-run kept area map new empty is valid = subst (λ (rs : List Rect). IsKept rs area new) (sym empty) (nothing_kept area map new (subst (λ (rs : List Rect). IsKept rs area map) empty is) valid)

run_removed : (n : ℕ) (rect : Rect) (area : ℕ) (map new : Dirt) → IsKept [] area map → IsDirt new → new.width ≡ map.width → new.height ≡ map.height → IsTaken n rect map new → Removed n rect [] map [] area new
run_removed n rect area map new is valid width height taken = record {
  is = nothing_kept area map new is valid;
  width = width;
  height = height;
  least = taken.least;
  most = taken.most;
  inside = taken.on_screen;
  were_dirty = taken.were_dirty;
  pixels = taken.pixels;
}

-- where nothing is kept, taking a run of the map is taking a rectangle
pub IfSome-removed : (o : Option Rect) (n : ℕ) (kept : List Rect) (area : ℕ) (map new : Dirt) → kept ≡ [] → IsKept kept area map → IsDirt new → new.width ≡ map.width → new.height ≡ map.height → IfSome o (λ rect. IsTaken n rect map new) → IfSome o (λ rect. Removed n rect kept map kept area new)
IfSome-removed None n kept area map new empty is valid width height taken = tt
IfSome-removed (Some rect) n kept area map new empty is valid width height taken =
    subst (λ (rs : List Rect). Removed n rect rs map rs area new) (sym empty) (run_removed n rect area map new (subst (λ (rs : List Rect). IsKept rs area map) empty is) valid width height taken)

pub IfNone-clean : (o : Option Rect) (kept : List Rect) (map : Dirt) → kept ≡ [] → IfNone o (IsClean map) → IfNone o (EachPixel map (λ x y. dirty_in kept map x y ≡ false))
IfNone-clean (Some rect) kept map empty clean = tt
IfNone-clean None kept map empty clean = subst (λ (rs : List Rect). EachPixel map (λ x y. dirty_in rs map x y ≡ false)) (sym empty) clean

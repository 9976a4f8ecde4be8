-- Dirt that grew: by a rectangle kept or marked, by one after another, and by the pieces around a kept one.
use Rattle.std.proofs.Common.{◌≡◌, ℕ, ◌+◌, ◌<◌, ◌≤◌, ℤ, pos, Bool, true, false, not, ◌&&◌, ◌||◌, List, [], ◌∷◌, ◌++◌, length, get_or, take, refl, sym, ap, ◌∙◌, arith}
use Rattle.std.proofs.lemmas.List.{take_at, take_all, take-take, length-take}
use Rattle.std.proofs.lemmas.Bool.{and_parts}
use Rattle.geom_core.specs.declared.rectangle.Rect.{Rect}
use Rattle.geom_core.specs.Rect.{in_rect, IsEnclosed}
use Rattle.geom_core.specs.Pieces.{covers, HavePixels}
use Rattle.geom_core.specs.Count.{screen_of}
use Rattle.geom_core.proofs.RectLemmas.{IsEnclosed-from_inside}
use Rattle.geom_core.proofs.PieceLemmas.{covers-take_more, covers-at, HavePixels-at}
use Rattle.redraw_core.specs.Dirt.{Dirt, IsDirt, EachPixel, is_dirty}
use Rattle.redraw_core.specs.Stored.{dirty_in, IsKept, IsPiece, IsFresh, IsApart, Grown}
use Rattle.redraw_core.proofs.StoreLemmas.{covers-push}

-- a piece's sides are within the screen's
pub IsPiece-enclosed : (rect : Rect) (map : Dirt) → IsPiece rect map → IsEnclosed rect (screen_of map.width map.height)
IsPiece-enclosed rect map piece = IsEnclosed-from_inside rect (screen_of map.width map.height) piece.some piece.inside

-- on a screen of the same size it is a piece too
pub IsPiece-same : (rect : Rect) (map new : Dirt) → new.width ≡ map.width → new.height ≡ map.height → IsPiece rect map → IsPiece rect new
IsPiece-same rect map new width height piece = record { some = piece.some; inside = rw (width, height) piece.inside }

push_bits : (a k r m : Bool) → a ≡ (k || r) → (a || m) ≡ ((k || m) || r)
push_bits a k r m e = grind arith

-- a rectangle of clean pixels is kept
pub Grown-push : (kept : List Rect) (map : Dirt) (more : List Rect) (area : ℕ) (new : Dirt) (rect : Rect) → IsKept more area new → more ≡ kept ++ rect ∷ [] → new ≡ map → Grown (in_rect rect) kept map more area new
Grown-push kept map more area new rect is grew same = record {
  is = is;
  width = ap (λ (d : Dirt). d.width) same;
  height = ap (λ (d : Dirt). d.height) same;
  pixels = λ x y hx hy.
      ap (λ (d : Dirt). covers more (pos x) (pos y) || is_dirty d x y) same
      ∙ push_bits (covers more (pos x) (pos y)) (covers kept (pos x) (pos y)) (in_rect rect (pos x) (pos y)) (is_dirty map x y) (ap (λ (rs : List Rect). covers rs (pos x) (pos y)) grew ∙ covers-push kept rect (pos x) (pos y));
  keeps = ap (λ (rs : List Rect). take (length kept) rs) grew ∙ take_at kept (rect ∷ []) (length kept) refl;
}

mark_apart : (k m n r : Bool) → n ≡ (m || r) → (k && m) ≡ false → (r && (k || m)) ≡ false → (k && n) ≡ false
mark_apart k m n r e f g = grind arith

mark_bits : (k m n r : Bool) → n ≡ (m || r) → (k || n) ≡ ((k || m) || r)
mark_bits k m n r e = grind arith

-- a rectangle of clean pixels goes into the map
pub Grown-mark : (kept : List Rect) (area : ℕ) (map new : Dirt) (rect : Rect) → IsKept kept area map → IsFresh rect kept map → IsDirt new → new.width ≡ map.width → new.height ≡ map.height → EachPixel map (λ x y. is_dirty new x y ≡ (is_dirty map x y || in_rect rect (pos x) (pos y))) → Grown (in_rect rect) kept map kept area new
Grown-mark kept area map new rect is fresh valid width height marked = record {
  is = record {
    valid = valid;
    disjoint = is.disjoint;
    filled = is.filled;
    on_screen = rw (width, height) is.on_screen;
    apart = λ x y hx hy.
        let in_width : x < map.width = omega arith in
        let in_height : y < map.height = omega arith in
        mark_apart (covers kept (pos x) (pos y)) (is_dirty map x y) (is_dirty new x y) (in_rect rect (pos x) (pos y)) (marked x y in_width in_height) (is.apart x y in_width in_height) (fresh.clean x y in_width in_height);
    sum = is.sum;
  };
  width = width;
  height = height;
  pixels = λ x y hx hy. mark_bits (covers kept (pos x) (pos y)) (is_dirty map x y) (is_dirty new x y) (in_rect rect (pos x) (pos y)) (marked x y hx hy);
  keeps = take_all (length kept) kept (omega arith);
}

erase_apart : (k m n r : Bool) → n ≡ (m && not r) → (k && m) ≡ false → (k && n) ≡ false
erase_apart k m n r e f = grind arith

erase_fresh : (k m n r : Bool) → n ≡ (m && not r) → (k && r) ≡ false → (r && (k || n)) ≡ false
erase_fresh k m n r e f = grind arith

erase_bits : (k m n r g : Bool) → n ≡ (m && not r) → g ≡ ((k || n) || r) → g ≡ ((k || m) || r)
erase_bits k m n r g e f = grind arith

-- the map without the pixels of a rectangle that is apart from the kept ones
pub IsKept-erase : (kept : List Rect) (area : ℕ) (map new : Dirt) (rect : Rect) → IsKept kept area map → IsDirt new → new.width ≡ map.width → new.height ≡ map.height → EachPixel map (λ x y. is_dirty new x y ≡ (is_dirty map x y && not (in_rect rect (pos x) (pos y)))) → IsKept kept area new
IsKept-erase kept area map new rect is valid width height erased = record {
  valid = valid;
  disjoint = is.disjoint;
  filled = is.filled;
  on_screen = rw (width, height) is.on_screen;
  apart = λ x y hx hy.
      let in_width : x < map.width = omega arith in
      let in_height : y < map.height = omega arith in
      erase_apart (covers kept (pos x) (pos y)) (is_dirty map x y) (is_dirty new x y) (in_rect rect (pos x) (pos y)) (erased x y in_width in_height) (is.apart x y in_width in_height);
  sum = is.sum;
}

pub IsFresh-erase : (kept : List Rect) (map new : Dirt) (rect : Rect) → IsApart rect kept → new.width ≡ map.width → new.height ≡ map.height → EachPixel map (λ x y. is_dirty new x y ≡ (is_dirty map x y && not (in_rect rect (pos x) (pos y)))) → IsFresh rect kept new
IsFresh-erase kept map new rect apart width height erased = record {
  clean = λ x y hx hy.
      let in_width : x < map.width = omega arith in
      let in_height : y < map.height = omega arith in
      erase_fresh (covers kept (pos x) (pos y)) (is_dirty map x y) (is_dirty new x y) (in_rect rect (pos x) (pos y)) (erased x y in_width in_height) (apart.none (pos x) (pos y));
}

-- what was erased from the map is dirty again once the rectangle is placed
pub Grown-erase : (kept : List Rect) (map mid : Dirt) (rect : Rect) (more : List Rect) (area : ℕ) (new : Dirt) → mid.width ≡ map.width → mid.height ≡ map.height → EachPixel map (λ x y. is_dirty mid x y ≡ (is_dirty map x y && not (in_rect rect (pos x) (pos y)))) → Grown (in_rect rect) kept mid more area new → Grown (in_rect rect) kept map more area new
Grown-erase kept map mid rect more area new width height erased grown = record {
  is = grown.is;
  width = grown.width ∙ width;
  height = grown.height ∙ height;
  pixels = λ x y hx hy.
      let in_width : x < mid.width = omega arith in
      let in_height : y < mid.height = omega arith in
      erase_bits (covers kept (pos x) (pos y)) (is_dirty map x y) (is_dirty mid x y) (in_rect rect (pos x) (pos y)) (dirty_in more new x y) (erased x y hx hy) (grown.pixels x y in_width in_height);
  keeps = grown.keeps;
}

none_bits : (d : Bool) → d ≡ (d || false)
none_bits d = grind arith

-- nothing was added
pub Grown-none : (kept : List Rect) (area : ℕ) (map : Dirt) → IsKept kept area map → Grown (covers []) kept map kept area map
Grown-none kept area map is = record {
  is = is;
  width = refl;
  height = refl;
  pixels = λ x y hx hy. none_bits (dirty_in kept map x y);
  keeps = take_all (length kept) kept (omega arith);
}

then_bits : (a b c t u v : Bool) → b ≡ (a || t) → c ≡ (b || u) → v ≡ (t || u) → c ≡ (a || v)
then_bits a b c t u v e f g = grind arith

-- what is kept of what was kept
keeps_then : (kept more most : List Rect) → take (length kept) more ≡ kept → take (length more) most ≡ more → take (length kept) most ≡ kept
keeps_then kept more most first second =
    let fits : length kept ≤ length more = omega (arith, ap length first, length-take (length kept) more) in
    sym (take-take (length kept) (length more) most fits) ∙ ap (λ (rs : List Rect). take (length kept) rs) second ∙ first

-- one addition after another
pub Grown-then : (t u v : ℤ → ℤ → Bool) (kept : List Rect) (map : Dirt) (more : List Rect) (area : ℕ) (mid : Dirt) (most : List Rect) (sum : ℕ) (new : Dirt) → Grown t kept map more area mid → Grown u more mid most sum new → ((x y : ℤ) → v x y ≡ (t x y || u x y)) → Grown v kept map most sum new
Grown-then t u v kept map more area mid most sum new first second joined = record {
  is = second.is;
  width = second.width ∙ first.width;
  height = second.height ∙ first.height;
  pixels = λ x y hx hy.
      let in_width : x < mid.width = omega (arith, first.width) in
      let in_height : y < mid.height = omega (arith, first.height) in
      then_bits (dirty_in kept map x y) (dirty_in more mid x y) (dirty_in most new x y) (t (pos x) (pos y)) (u (pos x) (pos y)) (v (pos x) (pos y)) (first.pixels x y hx hy) (second.pixels x y in_width in_height) (joined (pos x) (pos y));
  keeps = keeps_then kept more most first.keeps second.keeps;
}

covered_bits : (k m g t p h : Bool) → g ≡ ((k || m) || t) → t ≡ (p && not h) → (h ≡ true → k ≡ true) → g ≡ ((k || m) || p)
covered_bits k m g t p true e f c = let d = c refl in grind arith
covered_bits k m g t p false e f c = grind arith

-- adding what is outside a kept rectangle adds the whole
pub Grown-covered : (t : ℤ → ℤ → Bool) (part hole : Rect) (kept : List Rect) (map : Dirt) (more : List Rect) (area : ℕ) (new : Dirt) → Grown t kept map more area new → ((x y : ℤ) → t x y ≡ (in_rect part x y && not (in_rect hole x y))) → ((x y : ℤ) → in_rect hole x y ≡ true → covers kept x y ≡ true) → Grown (in_rect part) kept map more area new
Grown-covered t part hole kept map more area new grown outside among = record {
  is = grown.is;
  width = grown.width;
  height = grown.height;
  pixels = λ x y hx hy. covered_bits (covers kept (pos x) (pos y)) (is_dirty map x y) (dirty_in more new x y) (t (pos x) (pos y)) (in_rect part (pos x) (pos y)) (in_rect hole (pos x) (pos y)) (grown.pixels x y hx hy) (outside (pos x) (pos y)) (among (pos x) (pos y));
  keeps = grown.keeps;
}

-- each piece around a kept rectangle is a piece
pub IsPiece-at : (pieces : List Rect) (i : ℕ) (d part hole : Rect) (map : Dirt) → HavePixels pieces → i < length pieces → ((x y : ℤ) → covers pieces x y ≡ (in_rect part x y && not (in_rect hole x y))) → IsPiece part map → IsPiece (get_or pieces i d) map
IsPiece-at pieces i d part hole map have h outside piece = record {
  some = HavePixels-at pieces i d have h;
  inside = λ x y e. piece.inside x y (and_parts (in_rect part x y) (not (in_rect hole x y)) (sym (outside x y) ∙ covers-at pieces i d x y h e)).0;
}

past_bits : (f n g p c q : Bool) → g ≡ (f || n) → (f && p) ≡ false → c ≡ (p && not n) → (q ≡ true → c ≡ true) → (g && q) ≡ false
past_bits f n g p c true e a o w = let d = w refl in grind arith
past_bits f n g p c false e a o w = grind arith

-- and is apart from the kept ones up to that one, however many were added behind them
pub IsApart-at : (pieces : List Rect) (i : ℕ) (d part : Rect) (kept more : List Rect) (at : ℕ) (e : Rect) → i < length pieces → at < length kept → IsApart part (take at kept) → ((x y : ℤ) → covers pieces x y ≡ (in_rect part x y && not (in_rect (get_or kept at e) x y))) → take (length kept) more ≡ kept → IsApart (get_or pieces i d) (take (at + 1) more)
IsApart-at pieces i d part kept more at e h k apart outside keeps =
    let front : take (at + 1) more ≡ take (at + 1) kept = sym (take-take (at + 1) (length kept) more (omega arith)) ∙ ap (λ (rs : List Rect). take (at + 1) rs) keeps in
    record {
      none = λ x y.
          past_bits (covers (take at kept) x y) (in_rect (get_or kept at e) x y) (covers (take (at + 1) more) x y) (in_rect part x y) (covers pieces x y) (in_rect (get_or pieces i d) x y)
          (ap (λ (rs : List Rect). covers rs x y) front ∙ covers-take_more kept at e x y k) (apart.none x y) (outside x y) (covers-at pieces i d x y h);
    }

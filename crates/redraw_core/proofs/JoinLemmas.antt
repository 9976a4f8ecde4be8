-- Kept rectangles taken out and joined.
use Rattle.std.proofs.Common.{◌≡◌, ℕ, ◌+◌, ◌-◌, ◌<◌, ◌≤◌, ℤ, pos, Bool, false, ◌&&◌, ◌||◌, List, [], ◌∷◌, ◌++◌, refl, sym, ap, ◌∙◌, subst, arith, Option, Some, None}
use Rattle.std.specs.Option.{IfSome}
use Rattle.std.proofs.lemmas.Bool.{or_left, or_right}
use Rattle.geom_core.specs.declared.rectangle.Rect.{Rect}
use Rattle.geom_core.specs.Rect.{in_rect, in_span, area_of, IsInRange}
use Rattle.geom_core.specs.Pieces.{covers, total_area, AreDisjoint}
use Rattle.geom_core.specs.Count.{screen_of}
use Rattle.geom_core.proofs.SpanLemmas.{in_span-add}
use Rattle.geom_core.proofs.RectLemmas.{rect_of, in_rect-corner, area_of-some, IsInRange-from_enclosed, IsInRange-screen}
use Rattle.geom_core.proofs.PieceLemmas.{total_area-append, AreDisjoint-parts, HavePixels-parts}
use Rattle.redraw_core.specs.Dirt.{Dirt, IsDirt, is_dirty}
use Rattle.redraw_core.specs.Pairs.{IsBelow, IsBeside, IsJoined}
use Rattle.redraw_core.specs.Stored.{dirty_in, IsKept, IsPiece, IsFresh, Grown, Rearranged}
use Rattle.redraw_core.proofs.StoreLemmas.{covers-push, either, IsApart-fresh, total_area-fits}
use Rattle.redraw_core.proofs.GrownLemmas.{IsPiece-enclosed}

-- a piece is within the limit of coordinates
pub IsPiece-in_range : (rect : Rect) (map : Dirt) → IsDirt map → IsPiece rect map → IsInRange rect
IsPiece-in_range rect map valid piece = IsInRange-from_enclosed rect (screen_of map.width map.height) (IsPiece-enclosed rect map piece) (IsInRange-screen map.width map.height valid.greatest_width valid.greatest_height)

-- ---- the last rectangle taken out

pub area-popped : (kept front : List Rect) (area : ℕ) (map : Dirt) (rect : Rect) → IsKept kept area map → kept ≡ front ++ rect ∷ [] → (area_of rect ≤ area) × (area_of rect ≤ 16777216)
area-popped kept front area map rect is same =
    let sum = ap total_area same in
    let parts = total_area-append front (rect ∷ []) in
    (omega (arith, is.sum, sum, parts), omega (arith, sum, parts, total_area-fits kept area map is))

front_bits : (k f r m : Bool) → k ≡ (f || r) → (k && m) ≡ false → (f && m) ≡ false
front_bits k f r m e g = grind arith

pub IsKept-popped : (kept front : List Rect) (area : ℕ) (map : Dirt) (rect : Rect) → IsKept kept area map → kept ≡ front ++ rect ∷ [] → IsKept front (area - area_of rect) map
IsKept-popped kept front area map rect is same =
    let cover = λ (x y : ℤ). ap (λ (rs : List Rect). covers rs x y) same ∙ covers-push front rect x y in
    record {
      valid = is.valid;
      disjoint = (AreDisjoint-parts front (rect ∷ []) (subst AreDisjoint same is.disjoint)).0;
      filled = (HavePixels-parts front (rect ∷ []) (rw same at is.filled)).0;
      on_screen = λ x y e. is.on_screen x y (cover x y ∙ or_left (covers front x y) (in_rect rect x y) e);
      apart = λ x y hx hy. front_bits (covers kept (pos x) (pos y)) (covers front (pos x) (pos y)) (in_rect rect (pos x) (pos y)) (is_dirty map x y) (cover (pos x) (pos y)) (is.apart x y hx hy);
      sum = omega (arith, is.sum, ap total_area same, total_area-append front (rect ∷ []));
    }

pub IsPiece-popped : (kept front : List Rect) (area : ℕ) (map : Dirt) (rect : Rect) → IsKept kept area map → kept ≡ front ++ rect ∷ [] → IsPiece rect map
IsPiece-popped kept front area map rect is same = record {
  some = (HavePixels-parts front (rect ∷ []) (rw same at is.filled)).1.0;
  inside = λ x y e. is.on_screen x y (ap (λ (rs : List Rect). covers rs x y) same ∙ covers-push front rect x y ∙ or_right (covers front x y) (in_rect rect x y) e);
}

popped_bits : (k f r m : Bool) → k ≡ (f || r) → (f && (r || false)) ≡ false → (k && m) ≡ false → (r && (f || m)) ≡ false
popped_bits k f r m e g h = grind arith

pub IsFresh-popped : (kept front : List Rect) (area : ℕ) (map : Dirt) (rect : Rect) → IsKept kept area map → kept ≡ front ++ rect ∷ [] → IsFresh rect front map
IsFresh-popped kept front area map rect is same =
    let cross = (AreDisjoint-parts front (rect ∷ []) (subst AreDisjoint same is.disjoint)).2 in
    record {
      clean = λ x y hx hy. popped_bits (covers kept (pos x) (pos y)) (covers front (pos x) (pos y)) (in_rect rect (pos x) (pos y)) (is_dirty map x y)
          (ap (λ (rs : List Rect). covers rs (pos x) (pos y)) same ∙ covers-push front rect (pos x) (pos y)) (cross (pos x) (pos y)) (is.apart x y hx hy);
    }

-- ---- two rectangles joined

across_bits : (s t u w z : Bool) → w ≡ (t || u) → z ≡ s → (s && w) ≡ ((s && t) || (z && u))
across_bits s t u w z e f = grind arith

down_bits : (s t u w z : Bool) → w ≡ (t || u) → z ≡ s → (w && s) ≡ ((t && s) || (u && z))
down_bits s t u w z e f = grind arith

pub IsJoined-below : (a b : Rect) → IsBelow a b → IsJoined (rect_of a.x a.y a.w (a.h + b.h)) a b
IsJoined-below a b is = let ex = is.column in let ew = is.width in let ey = is.row in record {
  pixels = λ x y.
      across_bits (in_span a.x a.w x) (in_span a.y a.h y) (in_span b.y b.h y) (in_span a.y (a.h + b.h) y) (in_span b.x b.w x)
      (in_span-add a.y (a.h + b.h) a.h b.h y refl ∙ ap (λ (v : ℤ). in_span a.y a.h y || in_span v b.h y) ey)
      (ap (λ (v : ℤ). in_span v b.w x) (sym ex) ∙ ap (λ n. in_span a.x n x) (sym ew));
}

pub IsJoined-beside : (a b : Rect) → IsBeside a b → IsJoined (rect_of a.x a.y (a.w + b.w) a.h) a b
IsJoined-beside a b is = let ey = is.row in let eh = is.height in let ex = is.column in record {
  pixels = λ x y.
      down_bits (in_span a.y a.h y) (in_span a.x a.w x) (in_span b.x b.w x) (in_span a.x (a.w + b.w) x) (in_span b.y b.h y)
      (in_span-add a.x (a.w + b.w) a.w b.w x refl ∙ ap (λ (v : ℤ). in_span a.x a.w x || in_span v b.w x) ex)
      (ap (λ (v : ℤ). in_span v b.h y) (sym ey) ∙ ap (λ n. in_span a.y n y) (sym eh));
}

swap_bits : (w a b : Bool) → w ≡ (a || b) → w ≡ (b || a)
swap_bits w a b e = grind arith

pub IsJoined-swap : (whole a b : Rect) → IsJoined whole a b → IsJoined whole b a
IsJoined-swap whole a b j = record { pixels = λ x y. swap_bits (in_rect whole x y) (in_rect a x y) (in_rect b x y) (j.pixels x y) }

pub IsPiece-joined : (whole a b : Rect) (map : Dirt) → IsJoined whole a b → IsPiece a map → IsPiece b map → IsPiece whole map
IsPiece-joined whole a b map j first second = record {
  some = area_of-some whole a.x a.y (j.pixels a.x a.y ∙ or_left (in_rect a a.x a.y) (in_rect b a.x a.y) (in_rect-corner a first.some));
  inside = λ x y e. either (in_rect a x y) (in_rect b x y) (in_rect (screen_of map.width map.height) x y) (sym (j.pixels x y) ∙ e) (first.inside x y) (second.inside x y);
}

fresh_joined : (w a b d : Bool) → w ≡ (a || b) → (a && d) ≡ false → (b && d) ≡ false → (w && d) ≡ false
fresh_joined w a b d e f g = grind arith

pub IsFresh-joined : (whole a b : Rect) (kept : List Rect) (map : Dirt) → IsJoined whole a b → IsFresh a kept map → IsFresh b kept map → IsFresh whole kept map
IsFresh-joined whole a b kept map j first second = record {
  clean = λ x y hx hy.
      fresh_joined (in_rect whole (pos x) (pos y)) (in_rect a (pos x) (pos y)) (in_rect b (pos x) (pos y)) (dirty_in kept map x y) (j.pixels (pos x) (pos y)) (first.clean x y hx hy) (second.clean x y hx hy);
}

pub Grown-same : (t u : ℤ → ℤ → Bool) (kept : List Rect) (map : Dirt) (more : List Rect) (area : ℕ) (new : Dirt) → Grown t kept map more area new → ((x y : ℤ) → u x y ≡ t x y) → Grown u kept map more area new
Grown-same t u kept map more area new grown same = record {
  is = grown.is;
  width = grown.width;
  height = grown.height;
  pixels = λ x y hx hy. grown.pixels x y hx hy ∙ ap (λ b. dirty_in kept map x y || b) (sym (same (pos x) (pos y)));
  keeps = grown.keeps;
}

pub two_cover : (a b p : Bool) → p ≡ (a || b) → (a || (b || false)) ≡ p
two_cover a b p e = grind arith

pub or_false : (a b : Bool) → (a || (b || false)) ≡ (a || b)
or_false a b = grind arith

fresh_after : (l b k m t : Bool) → t ≡ (k || b) → (l && (k || m)) ≡ false → (b && (l || false)) ≡ false → (l && (t || m)) ≡ false
fresh_after l b k m t e f g = grind arith

-- the second rectangle is still of clean pixels where the first is kept
pub IsFresh-after : (before last : Rect) (kept : List Rect) (map : Dirt) (more : List Rect) (new : Dirt) → IsFresh last kept map → AreDisjoint (before ∷ last ∷ []) → more ≡ kept ++ before ∷ [] → new ≡ map → IsFresh last more new
IsFresh-after before last kept map more new fresh disjoint grew same = subst (λ (d : Dirt). IsFresh last more d) (sym same) (record {
  clean = λ x y hx hy.
      fresh_after (in_rect last (pos x) (pos y)) (in_rect before (pos x) (pos y)) (covers kept (pos x) (pos y)) (is_dirty map x y) (covers more (pos x) (pos y))
      (ap (λ (rs : List Rect). covers rs (pos x) (pos y)) grew ∙ covers-push kept before (pos x) (pos y)) (fresh.clean x y hx hy) (disjoint.0 (pos x) (pos y));
})

fresh_before : (l b k m t : Bool) → t ≡ (k || b) → (l && (t || m)) ≡ false → (l && (k || m)) ≡ false
fresh_before l b k m t e f = grind arith

-- the last rectangle is of clean pixels still where one before it is taken out
pub IsFresh-before : (before last : Rect) (kept front : List Rect) (map new : Dirt) → IsFresh last kept map → kept ≡ front ++ before ∷ [] → new ≡ map → IsFresh last front new
IsFresh-before before last kept front map new fresh grew same = subst (λ (d : Dirt). IsFresh last front d) (sym same) (record {
  clean = λ x y hx hy.
      fresh_before (in_rect last (pos x) (pos y)) (in_rect before (pos x) (pos y)) (covers front (pos x) (pos y)) (is_dirty map x y) (covers kept (pos x) (pos y))
      (ap (λ (rs : List Rect). covers rs (pos x) (pos y)) grew ∙ covers-push front before (pos x) (pos y)) (fresh.clean x y hx hy);
})

disjoint_bits : (b l k t : Bool) → t ≡ (k || b) → (t && l) ≡ false → (b && (l || false)) ≡ false
disjoint_bits b l k t e f = grind arith

no_more : (l : Bool) → (l && false) ≡ false
no_more l = grind arith

-- two kept rectangles are disjoint
pub AreDisjoint-two : (before last : Rect) (kept front : List Rect) (map : Dirt) → IsPiece last map → IsFresh last kept map → kept ≡ front ++ before ∷ [] → AreDisjoint (before ∷ last ∷ [])
AreDisjoint-two before last kept front map piece fresh grew =
    let apart = IsApart-fresh last kept map piece fresh in (
      λ x y. disjoint_bits (in_rect before x y) (in_rect last x y) (covers front x y) (covers kept x y) (ap (λ (rs : List Rect). covers rs x y) grew ∙ covers-push front before x y) (apart.none x y),
      (λ x y. no_more (in_rect last x y), tt),
    )

-- ---- the same pixels, kept otherwise

rejoin_bits : (n f b l m t k : Bool) → n ≡ ((f || m) || (b || (l || false))) → t ≡ (f || b) → k ≡ (t || l) → n ≡ (k || m)
rejoin_bits n f b l m t k e g h = grind arith

pub Rearranged-two : (before last : Rect) (kept more front : List Rect) (map mid : Dirt) (most : List Rect) (area : ℕ) (new : Dirt) → kept ≡ more ++ last ∷ [] → more ≡ front ++ before ∷ [] → mid ≡ map → Grown (covers (before ∷ last ∷ [])) front mid most area new → Rearranged kept map most area new
Rearranged-two before last kept more front map mid most area new first second same grown = subst (λ (d : Dirt). Rearranged kept d most area new) same (record {
  is = grown.is;
  width = grown.width;
  height = grown.height;
  pixels = λ x y hx hy. rejoin_bits (dirty_in most new x y) (covers front (pos x) (pos y)) (in_rect before (pos x) (pos y)) (in_rect last (pos x) (pos y)) (is_dirty mid x y) (covers more (pos x) (pos y)) (covers kept (pos x) (pos y))
      (grown.pixels x y hx hy)
      (ap (λ (rs : List Rect). covers rs (pos x) (pos y)) second ∙ covers-push front before (pos x) (pos y))
      (ap (λ (rs : List Rect). covers rs (pos x) (pos y)) first ∙ covers-push more last (pos x) (pos y));
})

pub Rearranged-none : (kept : List Rect) (area : ℕ) (map : Dirt) → IsKept kept area map → Rearranged kept map kept area map
Rearranged-none kept area map is = record { is = is; width = refl; height = refl; pixels = λ x y hx hy. refl }

pub Rearranged-then : (kept : List Rect) (map : Dirt) (more : List Rect) (area : ℕ) (mid : Dirt) (most : List Rect) (sum : ℕ) (new : Dirt) → Rearranged kept map more area mid → Rearranged more mid most sum new → Rearranged kept map most sum new
Rearranged-then kept map more area mid most sum new first second = record {
  is = second.is;
  width = second.width ∙ first.width;
  height = second.height ∙ first.height;
  pixels = λ x y hx hy.
      let in_width : x < mid.width = omega (arith, first.width) in
      let in_height : y < mid.height = omega (arith, first.height) in
      second.pixels x y in_width in_height ∙ first.pixels x y hx hy;
}

pub IfSome-swap : (o : Option Rect) (a b : Rect) → IfSome o (λ whole. IsJoined whole b a) → IfSome o (λ whole. IsJoined whole a b)
IfSome-swap None a b h = tt
IfSome-swap (Some whole) a b h = IsJoined-swap whole b a h

-- The queue: what its dirt is by pixels, how much it is, and what adding and taking do to it.
use Rattle.std.proofs.Common.{◌≡◌, ℕ, ◌+◌, ◌*◌, ◌/◌, ◌%◌, ◌<◌, ◌≤◌, ℤ, pos, Bool, true, false, not, ◌&&◌, ◌||◌, List, [], get_or, map, replicate, refl, sym, ap, ◌∙◌, subst, arith, Option, Some, None}
use Rattle.std.specs.Prelude.{nat_abs}
use Rattle.std.specs.Option.{IfSome, IfNone, MatchOption}
use Rattle.std.proofs.Math.Nat.{mul-le-mul_left, mul-le-mul_right}
use Rattle.std.proofs.lemmas.List.Sums.{count_by-le-length}
use Rattle.std.proofs.lemmas.Nat.{div-add-mod'}
use Rattle.std.proofs.lemmas.List.FromFn.{fill_by_all, length-map-range_with_len}
use Rattle.std.proofs.lemmas.Int.{ints}
use Rattle.std.proofs.lemmas.Bool.{false≢true, or_left, and_from, and_parts}
use Rattle.geom_core.specs.declared.rectangle.Rect.{Rect}
use Rattle.geom_core.specs.Rect.{in_rect, in_span, area_of}
use Rattle.geom_core.specs.Pieces.{covers}
use Rattle.geom_core.specs.Count.{count_in, screen_of, marks_on, true_count}
use Rattle.geom_core.proofs.RectLemmas.{in_rect-corner, in_rect-empty}
use Rattle.geom_core.proofs.CountLemmas.{count_in-parts, count_in-rect, count_in-covers}
use Rattle.geom_core.proofs.ScreenLemmas.{marks_on-at, true_count-marks_on}
use Rattle.redraw_core.specs.Dirt.{Dirt, IsDirt, IsClean, IsTaken, EachPixel, is_dirty, dirty_count}
use Rattle.redraw_core.specs.Stored.{dirty_in, dirt_in, IsKept, IsPiece, Grown, Rearranged, Removed, Added}
use Rattle.redraw_core.proofs.StoreLemmas.{IsPixel-on_screen, at_pixel}

-- the dirt as a test of integers
abbrev pub dirty_at : List Rect → Dirt → ℤ → ℤ → Bool
dirty_at kept map x y = covers kept x y || is_dirty map (nat_abs x) (nat_abs y)

-- a pixel of the queue is dirty where a kept rectangle or the map has it
pub is_dirty-in : (kept : List Rect) (map : Dirt) (x y : ℕ) → x < map.width → y < map.height → is_dirty (dirt_in kept map) x y ≡ dirty_in kept map x y
is_dirty-in kept map x y hx hy = marks_on-at (dirty_at kept map) map.width map.height x y false hx hy

pub IsDirt-in : (kept : List Rect) (map : Dirt) → IsDirt map → IsDirt (dirt_in kept map)
IsDirt-in kept map valid = record {
  least_width = valid.least_width;
  greatest_width = valid.greatest_width;
  greatest_height = valid.greatest_height;
  size = let e = length-map-range_with_len (λ i. dirty_at kept map (pos (i % map.width)) (pos (i / map.width))) 0 (map.height * map.width) in omega (arith, e);
}

-- the map's cells are the marks of its pixels
marks-are : (map : Dirt) → IsDirt map → map.marks ≡ marks_on (λ (x y : ℤ). is_dirty map (nat_abs x) (nat_abs y)) map.width map.height
marks-are map valid =
    fill_by_all (λ i. is_dirty map (i % map.width) (i / map.width)) map.marks (map.height * map.width) false (omega (arith, valid.size))
    (λ k h. ap (λ n. get_or map.marks n false) (sym (div-add-mod' k map.width)))

abbrev screen : Dirt → Rect
screen map = screen_of map.width map.height

-- the kept pixels and the map's are all dirty pixels
pub count-in : (kept : List Rect) (area : ℕ) (map : Dirt) → IsKept kept area map → dirty_count (dirt_in kept map) ≡ area + dirty_count map
count-in kept area map is =
    let marked = λ (x y : ℤ). is_dirty map (nat_abs x) (nat_abs y) in
    let all = true_count-marks_on (dirty_at kept map) map.width map.height in
    let parts = count_in-parts (dirty_at kept map) (covers kept) marked (screen map) (λ x y e. refl) (λ x y e.
    let p = IsPixel-on_screen map.width map.height x y e in
    ap (λ b. b && marked x y) (sym (at_pixel (covers kept) map.width map.height x y p)) ∙ is.apart (nat_abs x) (nat_abs y) p.left p.upper) in
    let kept_is = count_in-covers kept (screen map) is.disjoint is.on_screen in
    let map_is = sym (true_count-marks_on marked map.width map.height) ∙ ap true_count (sym (marks-are map is.valid)) in
    omega (arith, all, parts, kept_is, map_is, is.sum)

pub count-fits : (kept : List Rect) (area : ℕ) (map : Dirt) → IsKept kept area map → area + dirty_count map ≤ 16777216
count-fits kept area map is =
    let valid = IsDirt-in kept map is.valid in
    omega (arith, count-in kept area map is, valid.size, count_by-le-length (λ b. b) (dirt_in kept map).marks, mul-le-mul_left map.width is.valid.greatest_height, mul-le-mul_right 4096 is.valid.greatest_width)

-- ---- one pixel

pub holds_kept : (dirt : Dirt) (kept : List Rect) (map : Dirt) (x y : ℕ) → dirt_in kept map ≡ dirt → x < dirt.width → y < dirt.height → covers kept (pos x) (pos y) ≡ true → true ≡ is_dirty dirt x y
holds_kept dirt kept map x y is hx hy e =
    let in_width : x < map.width = omega (arith, ap (λ (d : Dirt). d.width) is) in
    let in_height : y < map.height = omega (arith, ap (λ (d : Dirt). d.height) is) in
    sym (or_left (covers kept (pos x) (pos y)) (is_dirty map x y) e) ∙ sym (is_dirty-in kept map x y in_width in_height) ∙ ap (λ (d : Dirt). is_dirty d x y) is

after_none : (k m : Bool) → k ≡ false → m ≡ (k || m)
after_none k m e = grind arith

pub holds_map : (dirt : Dirt) (kept : List Rect) (map : Dirt) (x y : ℕ) → dirt_in kept map ≡ dirt → x < dirt.width → y < dirt.height → covers kept (pos x) (pos y) ≡ false → is_dirty map x y ≡ is_dirty dirt x y
holds_map dirt kept map x y is hx hy e =
    let in_width : x < map.width = omega (arith, ap (λ (d : Dirt). d.width) is) in
    let in_height : y < map.height = omega (arith, ap (λ (d : Dirt). d.height) is) in
    after_none (covers kept (pos x) (pos y)) (is_dirty map x y) e ∙ sym (is_dirty-in kept map x y in_width in_height) ∙ ap (λ (d : Dirt). is_dirty d x y) is

-- ---- a new queue

pub marks-new : (kept : List Rect) (map : Dirt) (n : ℕ) → kept ≡ [] → IsDirt map → map.marks ≡ replicate n false → (dirt_in kept map).marks ≡ replicate n false
marks-new kept map n empty valid clean = ap (λ (rs : List Rect). (dirt_in rs map).marks) empty ∙ sym (marks-are map valid) ∙ clean

-- nothing is kept, and the map is clean
pub IsKept-new : (kept : List Rect) (map : Dirt) (n : ℕ) → kept ≡ [] → IsDirt map → map.marks ≡ replicate n false → IsKept kept 0 map
IsKept-new kept map n empty valid clean = subst (λ (rs : List Rect). IsKept rs 0 map) (sym empty) (record {
  valid = valid;
  disjoint = tt;
  filled = tt;
  on_screen = λ x y e. absurd (false≢true e);
  apart = λ x y hx hy. refl;
  sum = refl;
})

-- ---- what adding does

in_span-has : (len n : ℕ) → n < len → in_span (pos 0) len (pos n) ≡ true
in_span-has len n h = grind (arith, ints)

or_none : (d t : Bool) → t ≡ false → d ≡ (d || t)
or_none d t e = grind arith

screen_has : (width height x y : ℕ) → x < width → y < height → in_rect (screen_of width height) (pos x) (pos y) ≡ true
screen_has width height x y hx hy = and_from _ _ (in_span-has width x hx) (in_span-has height y hy)

and_true : (s t : Bool) → s ≡ true → (s && t) ≡ t
and_true s t e = grind arith

-- what no rectangle of the screen has, adds nothing
pub Added-nothing : (test : ℤ → ℤ → Bool) (part : Rect) (kept : List Rect) (area : ℕ) (map : Dirt) → ((x y : ℤ) → in_rect part x y ≡ (in_rect (screen map) x y && test x y)) → area_of part ≡ 0 → IsKept kept area map → Added test kept map kept area map
Added-nothing test part kept area map shared empty is = record {
  is = is;
  width = refl;
  height = refl;
  pixels = λ x y hx hy.
      let none : test (pos x) (pos y) ≡ false = sym (and_true (in_rect (screen map) (pos x) (pos y)) (test (pos x) (pos y)) (screen_has map.width map.height x y hx hy)) ∙ sym (shared (pos x) (pos y)) ∙ in_rect-empty part (pos x) (pos y) empty in
      or_none (dirty_in kept map x y) (test (pos x) (pos y)) none;
}

pub Added-grown : (test : ℤ → ℤ → Bool) (part : Rect) (kept : List Rect) (map : Dirt) (more : List Rect) (area : ℕ) (mid : Dirt) (most : List Rect) (sum : ℕ) (new : Dirt) → ((x y : ℤ) → in_rect part x y ≡ (in_rect (screen map) x y && test x y)) → Grown (in_rect part) kept map more area mid → Rearranged more mid most sum new → Added test kept map most sum new
Added-grown test part kept map more area mid most sum new shared grown same = record {
  is = same.is;
  width = same.width ∙ grown.width;
  height = same.height ∙ grown.height;
  pixels = λ x y hx hy.
      let in_width : x < mid.width = omega (arith, grown.width) in
      let in_height : y < mid.height = omega (arith, grown.height) in
      same.pixels x y in_width in_height ∙ grown.pixels x y hx hy ∙ ap (λ b. dirty_in kept map x y || b) (shared (pos x) (pos y) ∙ and_true (in_rect (screen map) (pos x) (pos y)) (test (pos x) (pos y)) (screen_has map.width map.height x y hx hy));
}

-- what `meet` answers is on the screen
pub IsPiece-shared : (part : Rect) (test : ℤ → ℤ → Bool) (map : Dirt) → ((x y : ℤ) → in_rect part x y ≡ (in_rect (screen map) x y && test x y)) → 0 < area_of part → IsPiece part map
IsPiece-shared part test map shared some = record {
  some = some;
  inside = λ x y e. (and_parts (in_rect (screen map) x y) (test x y) (sym (shared x y) ∙ e)).0;
}

-- added to the store, a rectangle's pixels are dirty in the queue
pub pixels-added : (test : ℤ → ℤ → Bool) (kept : List Rect) (map : Dirt) (more : List Rect) (area : ℕ) (new : Dirt) → Added test kept map more area new → EachPixel (dirt_in kept map) (λ x y. is_dirty (dirt_in more new) x y ≡ (is_dirty (dirt_in kept map) x y || test (pos x) (pos y)))
pixels-added test kept map more area new added = λ x y hx hy.
    is_dirty-in more new x y (omega (arith, added.width)) (omega (arith, added.height))
    ∙ added.pixels x y hx hy
    ∙ ap (λ b. b || test (pos x) (pos y)) (sym (is_dirty-in kept map x y hx hy))

-- ---- what taking does

pub IsTaken-removed : (n : ℕ) (rect : Rect) (kept : List Rect) (map : Dirt) (more : List Rect) (area : ℕ) (new : Dirt) → Removed n rect kept map more area new → IsTaken n rect (dirt_in kept map) (dirt_in more new)
IsTaken-removed n rect kept map more area new removed = record {
  least = removed.least;
  most = removed.most;
  on_screen = removed.inside;
  were_dirty = λ x y hx hy e. is_dirty-in kept map x y hx hy ∙ removed.were_dirty x y hx hy e;
  pixels = λ x y hx hy.
      is_dirty-in more new x y (omega (arith, removed.width)) (omega (arith, removed.height))
      ∙ removed.pixels x y hx hy
      ∙ ap (λ b. b && not (in_rect rect (pos x) (pos y))) (sym (is_dirty-in kept map x y hx hy));
}

old_bits : (old new r : Bool) → new ≡ (old && not r) → (r ≡ true → old ≡ true) → old ≡ (new || r)
old_bits old new true e f = let h = f refl in grind arith
old_bits old new false e f = grind arith

new_bits : (old new r : Bool) → new ≡ (old && not r) → (new && r) ≡ false
new_bits old new r e = grind arith

-- as many pixels fewer are dirty as the rectangle has
pub fewer-removed : (n : ℕ) (rect : Rect) (kept : List Rect) (map : Dirt) (more : List Rect) (area : ℕ) (new : Dirt) → Removed n rect kept map more area new → dirty_count (dirt_in more new) + area_of rect ≡ dirty_count (dirt_in kept map)
fewer-removed n rect kept map more area new removed =
    let here = λ (x y : ℤ) (e : in_rect (screen map) x y ≡ true).
    let p = IsPixel-on_screen map.width map.height x y e in
    let old = at_pixel (dirty_at kept map) map.width map.height x y p in
    let after = at_pixel (dirty_at more new) map.width map.height x y p in
    let inside = at_pixel (in_rect rect) map.width map.height x y p in
    let change : dirty_at more new x y ≡ (dirty_at kept map x y && not (in_rect rect x y)) =
    sym after ∙ removed.pixels (nat_abs x) (nat_abs y) p.left p.upper ∙ ap (λ b. b && not (in_rect rect (pos (nat_abs x)) (pos (nat_abs y)))) old ∙ ap (λ b. dirty_at kept map x y && not b) inside in
    change in
    let was = λ (x y : ℤ) (e : in_rect (screen map) x y ≡ true) (t : in_rect rect x y ≡ true).
    let p = IsPixel-on_screen map.width map.height x y e in
    let old = at_pixel (dirty_at kept map) map.width map.height x y p in
    let inside = at_pixel (in_rect rect) map.width map.height x y p in
    let dirty : dirty_at kept map x y ≡ true = sym old ∙ removed.were_dirty (nat_abs x) (nat_abs y) p.left p.upper (inside ∙ t) in
    dirty in
    let before = true_count-marks_on (dirty_at kept map) map.width map.height in
    let after = true_count-marks_on (dirty_at more new) new.width new.height in
    let size = ap (λ w. count_in (dirty_at more new) (screen_of w new.height)) removed.width ∙ ap (λ h. count_in (dirty_at more new) (screen_of map.width h)) removed.height in
    let parts = count_in-parts (dirty_at kept map) (dirty_at more new) (in_rect rect) (screen map)
    (λ x y e. old_bits (dirty_at kept map x y) (dirty_at more new x y) (in_rect rect x y) (here x y e) (was x y e))
    (λ x y e. new_bits (dirty_at kept map x y) (dirty_at more new x y) (in_rect rect x y) (here x y e)) in
    let whole = count_in-rect rect (screen map) removed.inside in
    omega (arith, before, after, size, parts, whole)

-- where a rectangle is taken, something was dirty
pub taken_not_clean : (n : ℕ) (rect : Rect) (old new : Dirt) → IsTaken n rect old new → IsClean old → ⊥
taken_not_clean n rect old new taken clean =
    let corner = in_rect-corner rect taken.least in
    let p = IsPixel-on_screen old.width old.height rect.x rect.y (taken.on_screen rect.x rect.y corner) in
    let inside = at_pixel (in_rect rect) old.width old.height rect.x rect.y p in
    false≢true (sym (clean (nat_abs rect.x) (nat_abs rect.y) p.left p.upper) ∙ taken.were_dirty (nat_abs rect.x) (nat_abs rect.y) p.left p.upper (inside ∙ corner))

-- ---- the same of an answer

pub answer_taken : (o : Option Rect) (n : ℕ) (kept : List Rect) (map : Dirt) (more : List Rect) (area : ℕ) (new : Dirt) → IfSome o (λ rect. Removed n rect kept map more area new) → IfSome o (λ rect. IsTaken n rect (dirt_in kept map) (dirt_in more new))
answer_taken None n kept map more area new h = tt
answer_taken (Some rect) n kept map more area new h = IsTaken-removed n rect kept map more area new h

pub answer_fewer : (o : Option Rect) (n : ℕ) (kept : List Rect) (map : Dirt) (more : List Rect) (area : ℕ) (new : Dirt) → IfSome o (λ rect. Removed n rect kept map more area new) → IfSome o (λ rect. dirty_count (dirt_in more new) + area_of rect ≡ dirty_count (dirt_in kept map))
answer_fewer None n kept map more area new h = tt
answer_fewer (Some rect) n kept map more area new h = fewer-removed n rect kept map more area new h

pub answer_none : (o : Option Rect) (n : ℕ) (kept : List Rect) (map : Dirt) (more : List Rect) (area : ℕ) (new : Dirt) → IfNone o (EachPixel map (λ x y. dirty_in kept map x y ≡ false)) → IfSome o (λ rect. Removed n rect kept map more area new) → MatchOption o (IsClean (dirt_in kept map)) (λ _. IsClean (dirt_in kept map) → ⊥)
answer_none None n kept map more area new none some = λ x y hx hy. is_dirty-in kept map x y hx hy ∙ none x y hx hy
answer_none (Some rect) n kept map more area new none some = taken_not_clean n rect (dirt_in kept map) (dirt_in more new) (IsTaken-removed n rect kept map more area new some)

-- A piece from which what a widget shows of it is cut.
use Rattle.std.proofs.Common.{◌≡◌, ℕ, zero, suc, ◌+◌, ◌-◌, ◌<◌, ◌≤◌, ℤ, Bool, pos, true, false, not, ◌&&◌, ◌||◌, inl, inr, List, [], ◌∷◌, length, take, get_or, refl, sym, subst, ◌∙◌, arith}
use Rattle.std.specs.Prelude.{Option, Some}
use Rattle.std.proofs.lemmas.Int.{ints}
use Rattle.std.proofs.Math.Nat.{mul-le-mul_left, mul-le-mul_right}
use Rattle.canvas_core.specs.Screen.{Screen}
use Rattle.geom_core.specs.Count.{screen_of}
use Rattle.std.proofs.lemmas.Bool.{cases_lt, false≢true}
use Rattle.geom_core.specs.declared.rectangle.Rect.{Rect}
use Rattle.geom_core.specs.Rect.{in_rect, area_of, IsInside, IsEnclosed}
use Rattle.geom_core.specs.Pieces.{covers, total_area, AreDisjoint, HavePixels}
use Rattle.geom_core.proofs.RectLemmas.{in_rect-corner, rect_from_pixels, rect_of, IsEnclosed-from_inside, IsInside-from_enclosed}
use Rattle.geom_core.proofs.PieceLemmas.{covers-take_more, total_area-take_more, covers-at, AreDisjoint-at, HavePixels-at}
use Rattle.painter_core.specs.Layers.{Layers}
use Rattle.painter_core.specs.Trail.{trail, slots_from, Finds}
use Rattle.painter_core.specs.Painted.{Painted, HasOneTrail}
use Rattle.painter_core.proofs.TrailLemmas.{trail-here, trail-past, trail-head}

-- The parts are what is left of the piece outside the part that is shared.
pub record IsLeft (piece shared : Rect) (parts : List Rect) : Type 0 where
  pub pixels : (x y : ℤ) → covers parts x y ≡ (in_rect piece x y && not (in_rect shared x y))
  pub disjoint : AreDisjoint parts
  pub filled : HavePixels parts
  pub areas : total_area parts + area_of shared ≡ area_of piece

first_of : (a b c : Bool) → c ≡ (a && b) → c ≡ true → a ≡ true
first_of a b c e f = grind arith

second_of : (a b c : Bool) → c ≡ (a && b) → c ≡ true → b ≡ true
second_of a b c e f = grind arith

outside_bits : (p s r l : Bool) → l ≡ (p && not s) → s ≡ (p && r) → l ≡ true → r ≡ false
outside_bits p s r l e f g = grind arith

-- a pixel that is shared is on the piece, and in the widget's place
pub shared_in_piece : (layers : Layers) (under : Option ℕ) (from : ℕ) (piece : Rect) (at id : ℕ) (shared : Rect) → Finds layers under from piece at id shared → IsInside shared piece
shared_in_piece layers under from piece at id shared found x y e = first_of (in_rect piece x y) (in_rect (layers.rect id) x y) (in_rect shared x y) (found.shares x y) e

pub shared_in_place : (layers : Layers) (under : Option ℕ) (from : ℕ) (piece : Rect) (at id : ℕ) (shared : Rect) → Finds layers under from piece at id shared → IsInside shared (layers.rect id)
shared_in_place layers under from piece at id shared found x y e = second_of (in_rect piece x y) (in_rect (layers.rect id) x y) (in_rect shared x y) (found.shares x y) e

-- a part is on the piece
pub part_in_piece : (piece shared : Rect) (parts : List Rect) (i : ℕ) (d : Rect) → IsLeft piece shared parts → i < length parts → IsInside (get_or parts i d) piece
part_in_piece piece shared parts i d left within x y e = first_of (in_rect piece x y) (not (in_rect shared x y)) (covers parts x y) (left.pixels x y) (covers-at parts i d x y within e)

-- where a trail goes at a pixel that is shared
pub trail-shared : (layers : Layers) (under : Option ℕ) (depth from : ℕ) (piece : Rect) (at id : ℕ) (shared : Rect) → 0 < depth → Finds layers under from piece at id shared → (x y : ℤ) → in_rect shared x y ≡ true → trail depth layers (slots_from layers under from) x y ≡ id ∷ trail (depth - 1) layers (layers.below (Some id)) x y
trail-shared layers under depth from piece at id shared some found x y e =
    found.passed depth x y (shared_in_piece layers under from piece at id shared found x y e)
    ∙ trail-here depth layers (layers.below under) at id x y some found.within found.slot (shared_in_place layers under from piece at id shared found x y e)

-- and at one of a part that is left
pub trail-left : (layers : Layers) (under : Option ℕ) (depth from : ℕ) (piece : Rect) (at id : ℕ) (shared : Rect) (parts : List Rect) → Finds layers under from piece at id shared → IsLeft piece shared parts → (x y : ℤ) → covers parts x y ≡ true → trail depth layers (slots_from layers under from) x y ≡ trail depth layers (slots_from layers under (at + 1)) x y
trail-left layers under depth from piece at id shared parts found left x y e =
    found.passed depth x y (first_of (in_rect piece x y) (not (in_rect shared x y)) (covers parts x y) (left.pixels x y) e)
    ∙ trail-past depth layers (layers.below under) at id x y found.within found.slot (outside_bits (in_rect piece x y) (in_rect shared x y) (in_rect (layers.rect id) x y) (covers parts x y) (left.pixels x y) (found.shares x y) e)

whole_bits : (p s l t : Bool) → l ≡ (p && not s) → (s ≡ true → p ≡ true) → (s || l) ≡ p
whole_bits true true l t e f = refl
whole_bits true false l t e f = e
whole_bits false true l t e f = sym (f refl)
whole_bits false false l t e f = e

-- the shared part and those that are left make the piece
pub parts_make_piece : (layers : Layers) (under : Option ℕ) (from : ℕ) (piece : Rect) (at id : ℕ) (shared : Rect) (parts : List Rect) → Finds layers under from piece at id shared → IsLeft piece shared parts → (x y : ℤ) → covers (shared ∷ parts) x y ≡ in_rect piece x y
parts_make_piece layers under from piece at id shared parts found left x y =
    whole_bits (in_rect piece x y) (in_rect shared x y) (covers parts x y) true (left.pixels x y) (shared_in_piece layers under from piece at id shared found x y)

not_left : (p s r l : Bool) → l ≡ (p && not s) → s ≡ (p && r) → l ≡ true → r ≡ true → ⊥
not_left p s r l e f g h = false≢true (sym (outside_bits p s r l e f g) ∙ h)

-- where all pixels of the piece have one trail, nothing of it is left
pub nothing_left : (layers : Layers) (under : Option ℕ) (depth from : ℕ) (piece : Rect) (at id : ℕ) (shared : Rect) (parts : List Rect) → 0 < depth → Finds layers under from piece at id shared → IsLeft piece shared parts → HasOneTrail (trail depth layers (slots_from layers under from)) piece → length parts ≡ 0
nothing_left layers under depth from piece at id shared parts some found left one = elim (cases_lt 0 (length parts)) [
  | inl more ↦
      let part = get_or parts 0 (rect_of (pos 0) (pos 0) 0 0) in
      let here = in_rect-corner part (HavePixels-at parts 0 (rect_of (pos 0) (pos 0) 0 0) left.filled more) in
      let covered = covers-at parts 0 (rect_of (pos 0) (pos 0) 0 0) part.x part.y more here in
      let corner = in_rect-corner shared found.filled in
      let same = one part.x part.y shared.x shared.y (part_in_piece piece shared parts 0 (rect_of (pos 0) (pos 0) 0 0) left more part.x part.y here) (shared_in_piece layers under from piece at id shared found shared.x shared.y corner) in
      let way = same ∙ trail-shared layers under depth from piece at id shared some found shared.x shared.y corner in
      let held = trail-head depth layers (slots_from layers under from) part.x part.y id (trail (depth - 1) layers (layers.below (Some id)) shared.x shared.y) way in
      absurd (not_left (in_rect piece part.x part.y) (in_rect shared part.x part.y) (in_rect (layers.rect id) part.x part.y) (covers parts part.x part.y) (left.pixels part.x part.y) (found.shares part.x part.y) covered held)
  | inr none ↦ omega arith
]

-- then the shared part is the piece
none_covered : (parts : List Rect) (x y : ℤ) → length parts ≡ 0 → covers parts x y ≡ false
none_covered [] x y e = refl
none_covered (part ∷ parts) x y e = absurd (omega arith)

all_shared_bits : (p s l : Bool) → l ≡ (p && not s) → l ≡ false → (s ≡ true → p ≡ true) → s ≡ p
all_shared_bits true true l e f g = refl
all_shared_bits true false l e f g = absurd (false≢true (sym f ∙ e))
all_shared_bits false true l e f g = sym (g refl)
all_shared_bits false false l e f g = refl

pub shared_is_piece : (layers : Layers) (under : Option ℕ) (from : ℕ) (piece : Rect) (at id : ℕ) (shared : Rect) (parts : List Rect) → Finds layers under from piece at id shared → IsLeft piece shared parts → length parts ≡ 0 → shared ≡ piece
shared_is_piece layers under from piece at id shared parts found left none =
    rect_from_pixels shared piece found.filled (λ x y. all_shared_bits (in_rect piece x y) (in_rect shared x y) (covers parts x y) (left.pixels x y) (none_covered parts x y none) (shared_in_piece layers under from piece at id shared found x y))

-- areas of the first parts
pub total_area-take_le : (i : ℕ) (rs : List Rect) → total_area (take i rs) ≤ total_area rs
total_area-take_le zero rs = omega arith
total_area-take_le (suc i) [] = omega arith
total_area-take_le (suc i) (r ∷ rs) = omega (arith, total_area-take_le i rs)

-- the parts before the i-th have room beside it
pub room_for_part : (parts : List Rect) (i : ℕ) (d : Rect) → i < length parts → total_area (take i parts) + area_of (get_or parts i d) ≤ total_area parts
room_for_part parts i d within = omega (arith, total_area-take_more parts i d within, total_area-take_le (i + 1) parts)

more_bits : (s t l c : Bool) → c ≡ (t || l) → (s || c) ≡ ((s || t) || l)
more_bits s t l c e = grind arith

beside_bits : (p s t l c : Bool) → c ≡ (p && not s) → (l ≡ true → c ≡ true) → (t && l) ≡ false → ((s || t) && l) ≡ false
beside_bits p s t true c e f g = let h = f refl in grind arith
beside_bits p s t false c e f g = grind arith

-- one part more beside the shared one
pub covers-part : (shared : Rect) (parts : List Rect) (i : ℕ) (d : Rect) (x y : ℤ) → i < length parts → covers (shared ∷ take (i + 1) parts) x y ≡ (covers (shared ∷ take i parts) x y || in_rect (get_or parts i d) x y)
covers-part shared parts i d x y within = more_bits (in_rect shared x y) (covers (take i parts) x y) (in_rect (get_or parts i d) x y) (covers (take (i + 1) parts) x y) (covers-take_more parts i d x y within)

pub part_apart : (piece shared : Rect) (parts : List Rect) (i : ℕ) (d : Rect) (x y : ℤ) → IsLeft piece shared parts → i < length parts → (covers (shared ∷ take i parts) x y && in_rect (get_or parts i d) x y) ≡ false
part_apart piece shared parts i d x y left within =
    beside_bits (in_rect piece x y) (in_rect shared x y) (covers (take i parts) x y) (in_rect (get_or parts i d) x y) (covers parts x y) (left.pixels x y) (λ e. covers-at parts i d x y within e) (AreDisjoint-at parts i d x y left.disjoint within)

pub total_area-part : (shared : Rect) (parts : List Rect) (i : ℕ) (d : Rect) → i < length parts → total_area (shared ∷ take (i + 1) parts) ≡ total_area (shared ∷ take i parts) + area_of (get_or parts i d)
total_area-part shared parts i d within = omega (arith, total_area-take_more parts i d within)

inside_bits : (s p : Bool) → (s ≡ true → p ≡ true) → s ≡ (p && s)
inside_bits true p e = let f = e refl in grind arith
inside_bits false true e = refl
inside_bits false false e = refl

-- what a cut leaves
pub IsLeft-cut : (layers : Layers) (under : Option ℕ) (from : ℕ) (piece : Rect) (at id : ℕ) (shared : Rect) (cut parts : List Rect) → Finds layers under from piece at id shared → ((x y : ℤ) → covers cut x y ≡ (in_rect piece x y && not (in_rect shared x y))) → AreDisjoint cut → HavePixels cut → ((other : Rect) → ((x y : ℤ) → in_rect other x y ≡ (in_rect piece x y && in_rect shared x y)) → total_area cut + area_of other ≡ area_of piece) → parts ≡ cut → IsLeft piece shared parts
IsLeft-cut layers under from piece at id shared cut parts found pixels disjoint filled areas same =
    let left : IsLeft piece shared cut = record {
      pixels = pixels;
      disjoint = disjoint;
      filled = filled;
      areas = areas shared (λ x y. inside_bits (in_rect shared x y) (in_rect piece x y) (shared_in_piece layers under from piece at id shared found x y));
    } in
    subst (λ (rs : List Rect). IsLeft piece shared rs) (sym same) left

-- a rectangle inside another has no more pixels
pub area_of-inside : (inner outer : Rect) → IsEnclosed inner outer → area_of inner ≤ area_of outer
area_of-inside inner outer within =
    let wide : inner.w ≤ outer.w = omega (arith, ints, within.left, within.right) in
    let high : inner.h ≤ outer.h = omega (arith, ints, within.upper, within.lower) in
    omega (arith, mul-le-mul_left inner.w high, mul-le-mul_right outer.h wide)

-- what is inside a piece on the screen is on the screen
pub on_screen_inside : (inner piece : Rect) (s : Screen) → 0 < area_of inner → IsInside inner piece → IsEnclosed piece (screen_of s.width s.height) → IsEnclosed inner (screen_of s.width s.height)
on_screen_inside inner piece s some inside within =
    IsEnclosed-from_inside inner (screen_of s.width s.height) some (λ x y e. IsInside-from_enclosed piece (screen_of s.width s.height) within x y (inside x y e))

-- painting keeps the screen's size
pub on_screen_kept : (set : ℤ → ℤ → Bool) (colour : ℤ → ℤ → ℕ) (n : ℕ) (old new : Screen) (piece : Rect) → Painted set colour n old new → IsEnclosed piece (screen_of old.width old.height) → IsEnclosed piece (screen_of new.width new.height)
on_screen_kept set colour n old new piece painted within = record {
  left = within.left;
  right = omega (arith, ints, within.right, painted.width);
  upper = within.upper;
  lower = omega (arith, ints, within.lower, painted.height);
}

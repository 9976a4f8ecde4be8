-- What the numbers that two shots list give is what all numbers give.
use Rattle.std.proofs.Common.{◌≡◌, ℕ, ◌+◌, ◌<◌, ℤ, Bool, true, false, ◌&&◌, ◌||◌, nat_eq, nat_lt, List, [], ◌∷◌, ◌++◌, slice_get, Option, Some, None, is_some, refl, sym, ap, ◌∙◌, subst, inl, inr, arith}
use Rattle.std.specs.List.{list_any, range_with_len}
use Rattle.std.proofs.Math.Bool.{or-false}
use Rattle.std.proofs.lemmas.Bool.{true≢false, and_parts, and_from, or_left, or_right, eqb-true, lt-ltb, ltb-true}
use Rattle.std.proofs.lemmas.List.FromFn.{get_or-range_with_len, length-range_with_len}
use Rattle.std.proofs.lemmas.Option.{slice_get_cases}
use Rattle.geom_core.specs.Rect.{in_rect}
use Rattle.geom_core.specs.declared.rectangle.Rect.{Rect}
use Rattle.tree_core.proofs.Listed.{any_at, any_place}
use Rattle.shot_core.specs.Shot.{Seen, IsShot, most_numbers, spot_at}
use Rattle.shot_core.specs.declared.spot.Spot.{Spot}
use Rattle.damage_rules.specs.Areas.{areas_of, area_of}
use Rattle.damage_rules.specs.Numbering.{in_areas}
use Rattle.drawing_core.specs.Marking.{is_given, is_given_of}

-- each number stands in the range of all
in_range : (n id : ℕ) → id < n → slice_get (range_with_len 0 n) id ≡ Some id
in_range n id within = elim (slice_get_cases (range_with_len 0 n) id).1 [
  | inl found ↦ found.2 ∙ ap Some (sym found.3 ∙ get_or-range_with_len 0 n id found.0 within ∙ zero_more id)
  | inr past ↦ absurd (omega (arith, length-range_with_len 0 n, past.0))
]
  where
    zero_more : (n : ℕ) → 0 + n ≡ n
    zero_more n = omega arith

from_range : (n i id : ℕ) → slice_get (range_with_len 0 n) i ≡ Some id → (id < n) × (id ≡ i)
from_range n i id at = elim (slice_get_cases (range_with_len 0 n) i).1 [
  | inl found ↦
      let within : i < n = omega (arith, found.1, length-range_with_len 0 n) in
      let one : Some id ≡ Some i = sym at ∙ in_range n i within in
      let same : id ≡ i = cc in
      (subst (λ k. k < n) (sym same) within, same)
  | inr past ↦ let none : Some id ≡ None = sym at ∙ past.1 in absurd (cc)
]

pub both_ways : (a b : Bool) → (a ≡ true → b ≡ true) → (b ≡ true → a ≡ true) → a ≡ b
both_ways true b f g = sym (f refl)
both_ways false true f g = g refl
both_ways false false f g = refl

module _ (before after : Seen) (looks : List ℕ) (x y : ℤ) where
  -- a number that gives the pixel
  pub record Gives (id : ℕ) : Type 0 where
    pub low : id < most_numbers
    pub gives : in_areas before after looks x y id ≡ true

  pub giving : is_given before after looks x y ≡ true → (id : ℕ) × Gives id
  giving given =
      let found = any_place (in_areas before after looks x y) (range_with_len 0 most_numbers) given in
      (found.1, record { low = (from_range most_numbers found.0 found.1 found.2).0; gives = found.3 })

  -- what one of all numbers gives, all give
  pub given-one : (id : ℕ) → Gives id → is_given before after looks x y ≡ true
  given-one id is = any_at (in_areas before after looks x y) (range_with_len 0 most_numbers) id id (in_range most_numbers id is.low) is.gives

  -- what some numbers give is among what all give
  pub given-all : (numbers : List ℕ) → is_given_of before after looks numbers x y ≡ true → is_given before after looks x y ≡ true
  given-all numbers given =
      let found = any_place (λ id. nat_lt id most_numbers && in_areas before after looks x y id) numbers given in
      let parts = and_parts (nat_lt found.1 most_numbers) (in_areas before after looks x y found.1) found.3 in
      given-one found.1 (record { low = ltb-true found.1 most_numbers parts.0; gives = parts.1 })

  -- what a number of the list gives, the list gives
  pub given-of : (numbers : List ℕ) (id : ℕ) → list_any (nat_eq id) numbers ≡ true → Gives id → is_given_of before after looks numbers x y ≡ true
  given-of numbers id among is =
      let other = any_place (nat_eq id) numbers among in
      any_at (λ key. nat_lt key most_numbers && in_areas before after looks x y key) numbers other.0 other.1 other.2
      (subst (λ key. (nat_lt key most_numbers && in_areas before after looks x y key) ≡ true) (eqb-true id other.1 other.3) (and_from (nat_lt id most_numbers) (in_areas before after looks x y id) (lt-ltb id most_numbers is.low) is.gives))

  -- a number with a spot in neither shot gives nothing
  nothing_bare : (id : ℕ) → is_some (spot_at before id) ≡ false → is_some (spot_at after id) ≡ false → in_areas before after looks x y id ≡ false
  unfolding areas_of
  nothing_bare id none none' = ap (list_any (λ (area : Rect). in_rect area x y)) (λ i. one (spot_at before id) none i ++ one (spot_at after id) none' i)
    where
      one : (o : Option Spot) → is_some o ≡ false → area_of before after looks id o ≡ []
      one None bare = refl
      one (Some spot) bare = absurd (true≢false bare)

  pub given-listed : IsShot before → IsShot after → is_given before after looks x y ≡ (is_given_of before after looks before.numbers x y || is_given_of before after looks after.numbers x y)
  given-listed valid valid' =
      both_ways (is_given before after looks x y) (is_given_of before after looks before.numbers x y || is_given_of before after looks after.numbers x y)
      (λ given. let found = giving given in listed found.0 found.1 (list_any (nat_eq found.0) before.numbers) (list_any (nat_eq found.0) after.numbers) refl refl)
      (λ given. all (is_given_of before after looks before.numbers x y) refl given)
    where
      listed : (id : ℕ) → Gives id → (a b : Bool) → list_any (nat_eq id) before.numbers ≡ a → list_any (nat_eq id) after.numbers ≡ b → (is_given_of before after looks before.numbers x y || is_given_of before after looks after.numbers x y) ≡ true
      listed id is true b was now = or_left _ _ (given-of before.numbers id was is)
      listed id is false true was now = or_right _ _ (given-of after.numbers id now is)
      listed id is false false was now = absurd (true≢false (sym is.gives ∙ nothing_bare id (sym (valid.listed id) ∙ was) (sym (valid'.listed id) ∙ now)))

      all : (b : Bool) → is_given_of before after looks before.numbers x y ≡ b → (b || is_given_of before after looks after.numbers x y) ≡ true → is_given before after looks x y ≡ true
      all true was given = given-all before.numbers was
      all false was given = given-all after.numbers given

  -- what one number gives
  pub one_given : (key : ℕ) → key < most_numbers → in_areas before after looks x y key ≡ is_given_of before after looks (key ∷ []) x y
  one_given key below =
      sym (or-false (in_areas before after looks x y key)) ∙ ap (λ t. (t && in_areas before after looks x y key) || false) (sym (lt-ltb key most_numbers below))

  pub none_beyond : (key : ℕ) → (key < most_numbers → ⊥) → is_given_of before after looks (key ∷ []) x y ≡ false
  none_beyond key beyond = by (nat_lt key most_numbers) refl
    where
      by : (b : Bool) → nat_lt key most_numbers ≡ b → ((b && in_areas before after looks x y key) || false) ≡ false
      by true below = absurd (beyond (ltb-true key most_numbers below))
      by false above = refl

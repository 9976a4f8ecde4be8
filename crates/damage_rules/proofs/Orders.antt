-- The windows that are put higher, of two orders that are the same or not.
use Rattle.std.proofs.Common.{◌≡◌, ℕ, zero, suc, ◌+◌, ◌<◌, ◌≤◌, Bool, true, false, cond, ◌&&◌, ◌||◌, nat_eq, List, [], ◌∷◌, ◌++◌, take, length, get_or, length-append, refl, sym, ap, ◌∙◌, arith, subst}
use Rattle.std.proofs.Math.Bool.{and-or_distrib_right}
use Rattle.std.specs.List.{list_any}
use Rattle.std.proofs.lemmas.Bool.{and_left, and_right, or_from, eqb-true}
use Rattle.std.proofs.lemmas.List.{take_more}
use Rattle.std.proofs.lemmas.List.Folds.{list_any-append, list_any_more}
use Rattle.geom_core.specs.declared.rectangle.Rect.{Rect}
use Rattle.machine_model.specs.Damage.{is_over}
use Rattle.shot_core.specs.Shot.{AreOnce, numbers_of}
use Rattle.damage_rules.specs.Areas.{is_higher_in}
use Rattle.damage_rules.proofs.Walks.{not_over, none_tested}

-- in one order no two windows are each over the other
over_once : (windows : List ℕ) (a b : ℕ) → AreOnce windows → (is_over nat_eq windows a b && is_over nat_eq windows b a) ≡ false
over_once [] a b once = refl
over_once (first ∷ windows) a b once = by (nat_eq a first) refl (nat_eq b first) refl (over_once windows a b once.1)
  where
    absent : (n : ℕ) → nat_eq n first ≡ true → list_any (nat_eq n) windows ≡ false
    absent n same = ap (λ (k : ℕ). list_any (nat_eq k) windows) (eqb-true n first same) ∙ once.0

    by : (p : Bool) → nat_eq a first ≡ p → (q : Bool) → nat_eq b first ≡ q → (is_over nat_eq windows a b && is_over nat_eq windows b a) ≡ false
        → (cond p (list_any (nat_eq b) windows) (is_over nat_eq windows a b) && cond q (list_any (nat_eq a) windows) (is_over nat_eq windows b a)) ≡ false
    by true is true is' rest = and_left _ _ (absent b is')
    by true is false not' rest = and_right (list_any (nat_eq b) windows) _ (not_over windows b a (absent a is))
    by false no' true is' rest = and_left _ _ (not_over windows a b (absent b is'))
    by false no' false not' rest = rest

-- so none is put higher where the orders are the same
pub none-higher : (before after : List ℕ) (window : ℕ) → AreOnce before → before ≡ after → is_higher_in before after window ≡ false
unfolding is_higher_in
none-higher before after window once same =
    ap (λ (windows : List ℕ). list_any (λ other. is_over nat_eq before other window && is_over nat_eq windows window other) before) (sym same) ∙ all before
  where
    all : (others : List ℕ) → list_any (λ (other : ℕ). is_over nat_eq before other window && is_over nat_eq before window other) others ≡ false
    all [] = refl
    all (other ∷ others) = or_from _ _ (over_once before other window once) (all others)

-- nor is a window that wasn't open
absent-higher : (before after : List ℕ) (window : ℕ) → list_any (nat_eq window) before ≡ false → is_higher_in before after window ≡ false
unfolding is_higher_in
absent-higher before after window absent = none_tested window (is_over nat_eq after window) before before absent

-- the numbers of the windows, by their places
pub length-numbers : (windows : List (ℕ × Rect)) → length (numbers_of windows) ≡ length windows
length-numbers [] = refl
length-numbers (window ∷ windows) = ap suc (length-numbers windows)

pub number-at : (windows : List (ℕ × Rect)) (i : ℕ) (d : ℕ × Rect) → i < length windows → get_or (numbers_of windows) i 0 ≡ (get_or windows i d).0
number-at [] i d less = absurd (omega arith)
number-at (window ∷ windows) zero d less = refl
number-at (window ∷ windows) (suc i) d less = number-at windows i d (omega arith)

-- equal orders, window by window
pub same-more : (before after : List (ℕ × Rect)) (i : ℕ) (d e : ℕ × Rect) → i < length before → i < length after → take i (numbers_of before) ≡ take i (numbers_of after) → (get_or before i d).0 ≡ (get_or after i e).0
    → take (i + 1) (numbers_of before) ≡ take (i + 1) (numbers_of after)
same-more before after i d e less less' sofar same =
    take_more (numbers_of before) i 0 (subst (λ (n : ℕ). i < n) (sym (length-numbers before)) less)
    ∙ (λ j. sofar j ++ (number-at before i d less ∙ same ∙ sym (number-at after i e less')) j ∷ [])
    ∙ sym (take_more (numbers_of after) i 0 (subst (λ (n : ℕ). i < n) (sym (length-numbers after)) less'))

pub take-all : (xs : List ℕ) (i : ℕ) → length xs ≤ i → take i xs ≡ xs
take-all [] zero less = refl
take-all [] (suc i) less = refl
take-all (x ∷ xs) zero less = absurd (omega arith)
take-all (x ∷ xs) (suc i) less = ap (λ (ys : List ℕ). x ∷ ys) (take-all xs i (omega arith))

pub same-all : (before after : List (ℕ × Rect)) (i : ℕ) → length before ≡ length after → length before ≤ i → take i (numbers_of before) ≡ take i (numbers_of after) → numbers_of before ≡ numbers_of after
same-all before after i len past sofar =
    sym (take-all (numbers_of before) i (subst (λ (n : ℕ). n ≤ i) (sym (length-numbers before)) past)) ∙ sofar
    ∙ take-all (numbers_of after) i (subst (λ (n : ℕ). n ≤ i) (sym (length-numbers after)) (subst (λ (n : ℕ). n ≤ i) len past))

-- the windows that were found among the first ones
pub record AreHigher (before after : List (ℕ × Rect)) (index : ℕ) (windows : List ℕ) : Type 0 where
  pub few : length windows ≤ index
  pub each : (window : ℕ) → list_any (nat_eq window) windows ≡ (list_any (nat_eq window) (take index (numbers_of before)) && is_higher_in (numbers_of before) (numbers_of after) window)

pub higher-none : (before after : List (ℕ × Rect)) → AreHigher before after 0 []
higher-none before after = record { few = omega arith; each = λ window. refl }

pub higher-more : (before after : List (ℕ × Rect)) (i : ℕ) (d : ℕ × Rect) (higher : Bool) (old new : List ℕ) → i < length before → AreHigher before after i old → higher ≡ is_higher_in (numbers_of before) (numbers_of after) (get_or before i d).0
    → new ≡ old ++ cond higher ((get_or before i d).0 ∷ []) [] → AreHigher before after (i + 1) new
higher-more before after i d higher old new less are is put = record {
  few = subst (λ (windows : List ℕ). length windows ≤ i + 1) (sym put) (grown higher);
  each = λ window. ap (list_any (nat_eq window)) put ∙ list_any-append (nat_eq window) old (cond higher ((get_or before i d).0 ∷ []) [])
      ∙ (λ j. are.each window j || last window j)
      ∙ sym (and-or_distrib_right (list_any (nat_eq window) (take i (numbers_of before))) (nat_eq window (get_or before i d).0) (is_higher_in (numbers_of before) (numbers_of after) window))
      ∙ ap (λ (b : Bool). b && is_higher_in (numbers_of before) (numbers_of after) window) (sym (first window));
}
  where
    grown : (h : Bool) → length (old ++ cond h ((get_or before i d).0 ∷ []) []) ≤ i + 1
    grown true = let few = are.few in omega (arith, few, length-append old ((get_or before i d).0 ∷ []))
    grown false = let few = are.few in omega (arith, few, length-append old [])

    first : (window : ℕ) → list_any (nat_eq window) (take (i + 1) (numbers_of before)) ≡ (list_any (nat_eq window) (take i (numbers_of before)) || nat_eq window (get_or before i d).0)
    first window =
        list_any_more (nat_eq window) (numbers_of before) i 0 (subst (λ (n : ℕ). i < n) (sym (length-numbers before)) less)
        ∙ ap (λ (n : ℕ). list_any (nat_eq window) (take i (numbers_of before)) || nat_eq window n) (number-at before i d less)

    last : (window : ℕ) → list_any (nat_eq window) (cond higher ((get_or before i d).0 ∷ []) []) ≡ (nat_eq window (get_or before i d).0 && is_higher_in (numbers_of before) (numbers_of after) window)
    last window = by (nat_eq window (get_or before i d).0) refl
      where
        given : (h e : Bool) → nat_eq window (get_or before i d).0 ≡ e → list_any (nat_eq window) (cond h ((get_or before i d).0 ∷ []) []) ≡ (e && h)
        given true true q = ap (λ (b : Bool). b || false) q
        given true false q = ap (λ (b : Bool). b || false) q
        given false true q = refl
        given false false q = refl

        by : (e : Bool) → nat_eq window (get_or before i d).0 ≡ e → list_any (nat_eq window) (cond higher ((get_or before i d).0 ∷ []) []) ≡ (e && is_higher_in (numbers_of before) (numbers_of after) window)
        by true q = given higher true q ∙ is ∙ ap (is_higher_in (numbers_of before) (numbers_of after)) (sym (eqb-true window (get_or before i d).0 q))
        by false q = given higher false q

pub higher-all : (before after : List (ℕ × Rect)) (i : ℕ) (windows : List ℕ) → length before ≤ i → AreHigher before after i windows → (window : ℕ) → list_any (nat_eq window) windows ≡ is_higher_in (numbers_of before) (numbers_of after) window
higher-all before after i windows past are window =
    are.each window ∙ ap (λ (ns : List ℕ). list_any (nat_eq window) ns && is_higher_in (numbers_of before) (numbers_of after) window) (take-all (numbers_of before) i (subst (λ (n : ℕ). n ≤ i) (sym (length-numbers before)) past))
    ∙ by (list_any (nat_eq window) (numbers_of before)) refl
  where
    by : (b : Bool) → list_any (nat_eq window) (numbers_of before) ≡ b → (b && is_higher_in (numbers_of before) (numbers_of after) window) ≡ is_higher_in (numbers_of before) (numbers_of after) window
    by true q = refl
    by false q = sym (absent-higher (numbers_of before) (numbers_of after) window q)

-- Walking through the windows from top to bottom.
use Rattle.std.proofs.Common.{◌≡◌, ℕ, zero, suc, ◌+◌, ◌<◌, ◌≤◌, Bool, true, false, cond, ◌&&◌, ◌||◌, nat_eq, List, [], ◌∷◌, drop, length, get_or, add-one, refl, sym, ap, ◌∙◌, arith}
use Rattle.std.specs.Cmp.{nat_eq_equiv}
use Rattle.std.specs.List.{list_any}
use Rattle.std.proofs.Math.Bool.{and-false, or-false}
use Rattle.std.proofs.lemmas.Bool.{true≢false, or_parts, or_from, eqb-true, eq-eqb, cond-true, cond-false}
use Rattle.machine_model.specs.Damage.{is_over}
use Rattle.shot_core.specs.Shot.{AreOnce, numbers_of}
use Rattle.geom_core.specs.declared.rectangle.Rect.{Rect}

pub drop-next : (windows : List (ℕ × Rect)) (i : ℕ) (d : ℕ × Rect) → i < length windows → drop i (numbers_of windows) ≡ (get_or windows i d).0 ∷ drop (suc i) (numbers_of windows)
drop-next [] i d within = absurd (omega arith)
drop-next (window ∷ windows) zero d within = refl
drop-next (window ∷ windows) (suc i) d within = drop-next windows i d (omega arith)

pub drop-last : (windows : List (ℕ × Rect)) (i : ℕ) → length windows ≤ i → drop i (numbers_of windows) ≡ []
drop-last [] zero past = refl
drop-last [] (suc i) past = refl
drop-last (window ∷ windows) zero past = absurd (omega arith)
drop-last (window ∷ windows) (suc i) past = drop-last windows i (omega arith)

-- whether the lower window comes, once the upper one was found, or is over it from here on
abbrev pub over_from : ℕ → ℕ → Bool → List ℕ → Bool
over_from upper lower found windows = cond found (list_any (nat_eq lower) windows) (is_over nat_eq windows upper lower)

pub over_ends : (upper lower window : ℕ) (found : Bool) (windows : List ℕ) → (found && nat_eq lower window) ≡ true → over_from upper lower found (window ∷ windows) ≡ true
over_ends upper lower window true windows h = ap (λ b. b || list_any (nat_eq lower) windows) h
over_ends upper lower window false windows h = absurd (true≢false (sym h))

pub over_goes : (upper lower window : ℕ) (found : Bool) (windows : List ℕ) → (found && nat_eq lower window) ≡ false → over_from upper lower found (window ∷ windows) ≡ over_from upper lower (found || nat_eq upper window) windows
over_goes upper lower window true windows h = ap (λ b. b || list_any (nat_eq lower) windows) h
over_goes upper lower window false windows h = refl

-- whether one of those that come before the window, or were seen already, is below it in the other order
abbrev pub higher_from : (ℕ → Bool) → ℕ → Bool → List ℕ → Bool
higher_from below window higher [] = false
higher_from below window higher (other ∷ others) =
    cond (nat_eq other window) higher (higher_from below window (higher || below other) others)

-- a window that isn't in the list is under none of it
pub not_over : (windows : List ℕ) (upper lower : ℕ) → list_any (nat_eq lower) windows ≡ false → is_over nat_eq windows upper lower ≡ false
not_over [] upper lower absent = refl
not_over (window ∷ windows) upper lower absent = by (nat_eq upper window) (not_over windows upper lower parts.1)
  where
    parts : (nat_eq lower window ≡ false) × (list_any (nat_eq lower) windows ≡ false)
    parts = or_parts (nat_eq lower window) (list_any (nat_eq lower) windows) absent

    by : (b : Bool) → is_over nat_eq windows upper lower ≡ false → cond b (list_any (nat_eq lower) windows) (is_over nat_eq windows upper lower) ≡ false
    by true rest = parts.1
    by false rest = rest

-- the tests that the definition makes, from here on
abbrev tested : List ℕ → (ℕ → Bool) → ℕ → ℕ → Bool
tested windows below window other = is_over nat_eq windows other window && below other

-- a first window that isn't among the others changes nothing of theirs
skip_first : (first window : ℕ) (below : ℕ → Bool) (all others : List ℕ) → list_any (nat_eq first) others ≡ false → list_any (tested (first ∷ all) below window) others ≡ list_any (tested all below window) others
skip_first first window below all [] absent = refl
skip_first first window below all (other ∷ others) absent =
    let parts = or_parts (nat_eq first other) (list_any (nat_eq first) others) absent in
    let same : tested (first ∷ all) below window other ≡ tested all below window other = ap (λ b. b && below other) (cond-false (nat_eq other first) _ _ (nat_eq_equiv.symm other first ∙ parts.0)) in
    λ i. same i || skip_first first window below all others parts.1 i

-- nothing of a list is over a window that isn't in it
pub none_tested : (window : ℕ) (below : ℕ → Bool) (all others : List ℕ) → list_any (nat_eq window) all ≡ false → list_any (tested all below window) others ≡ false
none_tested window below all [] absent = refl
none_tested window below all (other ∷ others) absent =
    or_from _ _ (ap (λ b. b && below other) (not_over all other window absent)) (none_tested window below all others absent)

regrouped : (m h p l : Bool) → ((m && (h || p)) || l) ≡ ((m && h) || ((m && p) || l))
regrouped true true true l = refl
regrouped true true false l = refl
regrouped true false true l = refl
regrouped true false false l = refl
regrouped false h p l = refl

higher_is : (below : ℕ → Bool) (window : ℕ) (higher : Bool) (windows : List ℕ) → AreOnce windows → higher_from below window higher windows ≡ ((list_any (nat_eq window) windows && higher) || list_any (tested windows below window) windows)
higher_is below window higher [] once = refl
higher_is below window higher (other ∷ others) once = by (nat_eq other window) refl (higher_is below window (higher || below other) others once.1)
  where
    rest : list_any (tested (other ∷ others) below window) others ≡ list_any (tested others below window) others
    rest = skip_first other window below others others once.0

    first : is_over nat_eq (other ∷ others) other window ≡ list_any (nat_eq window) others
    first = cond-true (nat_eq other other) _ _ (eq-eqb other other refl)

    by : (b : Bool) → nat_eq other window ≡ b → higher_from below window (higher || below other) others ≡ ((list_any (nat_eq window) others && (higher || below other)) || list_any (tested others below window) others) → cond b higher (higher_from below window (higher || below other) others) ≡ (((nat_eq window other || list_any (nat_eq window) others) && higher) || ((is_over nat_eq (other ∷ others) other window && below other) || list_any (tested (other ∷ others) below window) others))
    by true same step =
        let turn : nat_eq window other ≡ true = eq-eqb window other (sym (eqb-true other window same)) in
        let absent : list_any (nat_eq window) others ≡ false = ap (λ (n : ℕ). list_any (nat_eq n) others) (sym (eqb-true other window same)) ∙ once.0 in
        sym ((λ i. ((turn i || list_any (nat_eq window) others) && higher) || (((first ∙ absent) i && below other) || (rest ∙ none_tested window below others others absent) i)) ∙ or-false higher)
    by false differ step =
        step
        ∙ (regrouped (list_any (nat_eq window) others) higher (below other) (list_any (tested others below window) others)
        ∙ (λ i. ((sym (nat_eq_equiv.symm window other ∙ differ) i || list_any (nat_eq window) others) && higher) || ((sym first i && below other) || sym rest i)))

pub higher_from-start : (below : ℕ → Bool) (window : ℕ) (windows : List ℕ) → AreOnce windows → higher_from below window false windows ≡ list_any (tested windows below window) windows
higher_from-start below window windows once = higher_is below window false windows once ∙ ap (λ b. b || list_any (tested windows below window) windows) (and-false (list_any (nat_eq window) windows))

-- the same along the walk of a loop
pub over_stops : (windows : List (ℕ × Rect)) (i : ℕ) (d : ℕ × Rect) (upper lower : ℕ) (found : Bool) → i < length windows → (found && nat_eq lower (get_or windows i d).0) ≡ true → over_from upper lower found (drop i (numbers_of windows)) ≡ true
over_stops windows i d upper lower found within h =
    ap (over_from upper lower found) (drop-next windows i d within) ∙ over_ends upper lower (get_or windows i d).0 found (drop (suc i) (numbers_of windows)) h

pub over_steps : (windows : List (ℕ × Rect)) (i : ℕ) (d : ℕ × Rect) (upper lower : ℕ) (found : Bool) → i < length windows → (found && nat_eq lower (get_or windows i d).0) ≡ false → over_from upper lower found (drop i (numbers_of windows)) ≡ over_from upper lower (found || nat_eq upper (get_or windows i d).0) (drop (i + 1) (numbers_of windows))
over_steps windows i d upper lower found within h =
    ap (over_from upper lower found) (drop-next windows i d within)
    ∙ (over_goes upper lower (get_or windows i d).0 found (drop (suc i) (numbers_of windows)) h
    ∙ ap (λ (k : ℕ). over_from upper lower (found || nat_eq upper (get_or windows i d).0) (drop k (numbers_of windows))) (sym (add-one i)))

pub over_last : (windows : List (ℕ × Rect)) (i : ℕ) (upper lower : ℕ) (found : Bool) → length windows ≤ i → over_from upper lower found (drop i (numbers_of windows)) ≡ false
over_last windows i upper lower found past = ap (over_from upper lower found) (drop-last windows i past) ∙ none found
  where
    none : (b : Bool) → over_from upper lower b [] ≡ false
    none true = refl
    none false = refl

pub higher_stops : (windows : List (ℕ × Rect)) (i : ℕ) (d : ℕ × Rect) (below : ℕ → Bool) (window : ℕ) (higher : Bool) → i < length windows → (get_or windows i d).0 ≡ window → higher_from below window higher (drop i (numbers_of windows)) ≡ higher
higher_stops windows i d below window higher within same =
    ap (higher_from below window higher) (drop-next windows i d within) ∙ cond-true (nat_eq (get_or windows i d).0 window) _ _ (eq-eqb _ _ same)

pub higher_steps : (windows : List (ℕ × Rect)) (i : ℕ) (d : ℕ × Rect) (below : ℕ → Bool) (window : ℕ) (higher : Bool) → i < length windows → nat_eq (get_or windows i d).0 window ≡ false → higher_from below window higher (drop i (numbers_of windows)) ≡ higher_from below window (higher || below (get_or windows i d).0) (drop (i + 1) (numbers_of windows))
higher_steps windows i d below window higher within differ =
    ap (higher_from below window higher) (drop-next windows i d within)
    ∙ (cond-false (nat_eq (get_or windows i d).0 window) _ _ differ
    ∙ ap (λ (k : ℕ). higher_from below window (higher || below (get_or windows i d).0) (drop k (numbers_of windows))) (sym (add-one i)))

pub higher_last : (windows : List (ℕ × Rect)) (i : ℕ) (below : ℕ → Bool) (window : ℕ) (higher : Bool) → length windows ≤ i → higher_from below window higher (drop i (numbers_of windows)) ≡ false
higher_last windows i below window higher past = ap (higher_from below window higher) (drop-last windows i past)

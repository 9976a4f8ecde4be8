-- Maps of truth values: how many are true, and what one map lost to another.
use Rattle.std.proofs.Common.{◌≡◌, ℕ, zero, suc, ◌+◌, ◌≤◌, inl, inr, min, Bool, true, false, not, ◌&&◌, cond, List, [], ◌∷◌, length, get_or, refl, ap, arith}
use Rattle.std.proofs.lemmas.List.{get_or_past}
use Rattle.std.proofs.lemmas.List.Sums.{sum_by-cons, get_or-le-sum_by}
use Rattle.std.proofs.lemmas.Bool.{cases_lt, false≢true, cond-true, false_from_ne_true}
use Rattle.machine_model.specs.State.{count_true}
use Rattle.machine_model.specs.Chosen.{lost_marks}

pub count_true-cons : (m : Bool) (ms : List Bool) → count_true (m ∷ ms) ≡ cond m 1 0 + count_true ms
count_true-cons m ms = sum_by-cons (λ x. cond x 1 0) m ms

-- where none is true, each is false
pub all_false : (marks : List Bool) (k : ℕ) → count_true marks ≡ 0 → get_or marks k false ≡ false
all_false marks k none =
    elim (cases_lt k (length marks)) [
      | inl within ↦ false_from_ne_true (get_or marks k false) (λ (is : get_or marks k false ≡ true).
          let one : cond (get_or marks k false) 1 0 ≤ count_true marks = get_or-le-sum_by (λ x. cond x 1 0) marks k false within in
          let here : cond (get_or marks k false) 1 0 ≡ 1 = cond-true {A = ℕ} (get_or marks k false) 1 0 is in
          absurd (omega (arith, one, here, none)))
      | inr past ↦ get_or_past marks k false past
    ]

pub length-lost_marks : (old new : List Bool) → length new ≡ length old → length (lost_marks old new) ≡ length old
length-lost_marks [] new e = refl
length-lost_marks (b ∷ old) [] e = absurd (omega arith)
length-lost_marks (b ∷ old) (a ∷ new) e =
    ap suc (length-lost_marks old new (omega arith))

pub get_or-lost_marks : (old new : List Bool) (k : ℕ) → length new ≡ length old → get_or (lost_marks old new) k false ≡ (get_or old k false && not (get_or new k false))
get_or-lost_marks [] new k e = refl
get_or-lost_marks (b ∷ old) [] k e = absurd (omega arith)
get_or-lost_marks (b ∷ old) (a ∷ new) zero e = refl
get_or-lost_marks (b ∷ old) (a ∷ new) (suc k) e = get_or-lost_marks old new k (omega arith)

-- what was lost and what is left make up what was there, where nothing came
pub count_true-lost_marks : (old new : List Bool) → length new ≡ length old → ((k : ℕ) → get_or new k false ≡ true → get_or old k false ≡ true) → count_true (lost_marks old new) + count_true new ≡ count_true old
count_true-lost_marks [] [] e sub = refl
count_true-lost_marks [] (a ∷ new) e sub = absurd (omega arith)
count_true-lost_marks (b ∷ old) [] e sub = absurd (omega arith)
count_true-lost_marks (b ∷ old) (a ∷ new) e sub =
    let rest = count_true-lost_marks old new (omega arith) (λ k h. sub (suc k) h) in
    let lost = count_true-cons (b && not a) (lost_marks old new) in
    let left = count_true-cons a new in
    let were = count_true-cons b old in
    let heads = lost_heads b a (sub 0) in
    omega arith
  where
    lost_heads : (b a : Bool) → (a ≡ true → b ≡ true) → cond (b && not a) 1 0 + cond a 1 0 ≡ cond b 1 0
    lost_heads true true h = refl
    lost_heads true false h = refl
    lost_heads false true h = absurd (false≢true (h refl))
    lost_heads false false h = refl

-- the map with its first n true values made false
abbrev pub cleaned_first : ℕ → List Bool → List Bool
cleaned_first n [] = []
cleaned_first zero (m ∷ ms) = m ∷ ms
cleaned_first (suc n) (true ∷ ms) = false ∷ cleaned_first n ms
cleaned_first (suc n) (false ∷ ms) = false ∷ cleaned_first (suc n) ms

pub length-cleaned_first : (n : ℕ) (ms : List Bool) → length (cleaned_first n ms) ≡ length ms
length-cleaned_first n [] = refl
length-cleaned_first zero (m ∷ ms) = refl
length-cleaned_first (suc n) (true ∷ ms) = ap suc (length-cleaned_first n ms)
length-cleaned_first (suc n) (false ∷ ms) = ap suc (length-cleaned_first (suc n) ms)

pub cleaned_first-was : (n : ℕ) (ms : List Bool) (k : ℕ) → get_or (cleaned_first n ms) k false ≡ true → get_or ms k false ≡ true
cleaned_first-was n [] k h = h
cleaned_first-was zero (m ∷ ms) k h = h
cleaned_first-was (suc n) (true ∷ ms) zero h = refl
cleaned_first-was (suc n) (true ∷ ms) (suc k) h = cleaned_first-was n ms k h
cleaned_first-was (suc n) (false ∷ ms) zero h = h
cleaned_first-was (suc n) (false ∷ ms) (suc k) h = cleaned_first-was (suc n) ms k h

pub count_true-cleaned_first : (n : ℕ) (ms : List Bool) → count_true (cleaned_first n ms) + min (count_true ms) n ≡ count_true ms
count_true-cleaned_first n [] = omega arith
count_true-cleaned_first zero (m ∷ ms) = omega arith
count_true-cleaned_first (suc n) (true ∷ ms) =
    let rest = count_true-cleaned_first n ms in
    let now = count_true-cons false (cleaned_first n ms) in
    let were = count_true-cons true ms in
    omega arith
count_true-cleaned_first (suc n) (false ∷ ms) =
    let rest = count_true-cleaned_first (suc n) ms in
    let now = count_true-cons false (cleaned_first (suc n) ms) in
    let were = count_true-cons false ms in
    omega arith

-- Lists of keys: which keys are in them, what is left without one, and that none is there twice.
use Rattle.std.proofs.Common.{◌≡◌, ℕ, zero, suc, ◌+◌, ◌<◌, ◌≤◌, Bool, true, false, not, ◌&&◌, ◌||◌, List, [], ◌∷◌, length, get_or, Option, Some, None, is_some, refl, sym, ap, ◌∙◌, arith}
use Rattle.std.specs.Prelude.{slice_get, nat_eq, MatchOption}
use Rattle.std.specs.List.{remove}
use Rattle.std.proofs.lemmas.Bool.{eqb-true, eq-eqb, ne_eqb, or_parts, or_left, or_right, or_from, cond-true, cond-false, cond_both, false≢true}
use Rattle.std.proofs.lemmas.Bool.Decides.{nat_tests}
use Rattle.stack_core.specs.Stack.{holds_key, without, AreDistinct, IsStack}

kept_key : (k key other : ℕ) (held left : Bool) → left ≡ (held && not (nat_eq key other)) → nat_eq k key ≡ false → (nat_eq k other || left) ≡ ((nat_eq k other || held) && not (nat_eq key other))
kept_key k key other held left e differ = grind (arith, nat_tests)

lost_key : (k key other : ℕ) (held left : Bool) → left ≡ (held && not (nat_eq key other)) → nat_eq k key ≡ true → left ≡ ((nat_eq k other || held) && not (nat_eq key other))
lost_key k key other held left e same = grind (arith, nat_tests)

-- which keys are left
pub holds_key-without : (ks : List ℕ) (key other : ℕ) → holds_key (without ks key) other ≡ (holds_key ks other && not (nat_eq key other))
holds_key-without [] key other = refl
holds_key-without (k ∷ ks) key other = cond_both (nat_eq k key) (without ks key) (k ∷ without ks key) (λ (ls : List ℕ). holds_key ls other ≡ ((nat_eq k other || holds_key ks other) && not (nat_eq key other)))
    (λ e. lost_key k key other (holds_key ks other) (holds_key (without ks key) other) (holds_key-without ks key other) e)
    (λ e. kept_key k key other (holds_key ks other) (holds_key (without ks key) other) (holds_key-without ks key other) e)

-- a key that isn't there leaves the list as it is
pub without-absent : (ks : List ℕ) (key : ℕ) → holds_key ks key ≡ false → without ks key ≡ ks
without-absent [] key h = refl
without-absent (k ∷ ks) key h =
    let parts = or_parts (nat_eq k key) (holds_key ks key) h in
    cond-false (nat_eq k key) (without ks key) (k ∷ without ks key) parts.0 ∙ ap (λ (rest : List ℕ). k ∷ rest) (without-absent ks key parts.1)

-- the key that is taken out isn't left
pub holds_key-without_same : (ks : List ℕ) (key : ℕ) → holds_key (without ks key) key ≡ false
holds_key-without_same ks key = let e = holds_key-without ks key key in let t = holds_key ks key in let same = eq-eqb key key refl in grind arith

-- a key that stands at an index is in the list
pub holds_key-at : (ks : List ℕ) (i key : ℕ) → slice_get ks i ≡ Some key → holds_key ks key ≡ true
holds_key-at [] i key h = cc
holds_key-at (k ∷ ks) zero key h = let same : k ≡ key = cc in or_left (nat_eq k key) (holds_key ks key) (eq-eqb k key same)
holds_key-at (k ∷ ks) (suc i) key h = or_right (nat_eq k key) (holds_key ks key) (holds_key-at ks i key h)

-- a key that stands at no index isn't in the list
pub holds_key-nowhere : (ks : List ℕ) (key : ℕ) → ((i : ℕ) → i < length ks → get_or ks i 0 ≡ key → ⊥) → holds_key ks key ≡ false
holds_key-nowhere [] key h = refl
holds_key-nowhere (k ∷ ks) key h = or_from (nat_eq k key) (holds_key ks key) (ne_eqb k key (h 0 (omega arith))) (holds_key-nowhere ks key (λ i l. h (suc i) (omega arith)))

-- whether an index was found at which the key stands
pub holds_key-found : (ks : List ℕ) (key : ℕ) (place : Option ℕ) → MatchOption place (holds_key ks key ≡ false) (λ i. slice_get ks i ≡ Some key) → is_some place ≡ holds_key ks key
holds_key-found ks key None absent = sym absent
holds_key-found ks key (Some i) at = sym (holds_key-at ks i key at)

pub slice_get-at : (ks : List ℕ) (i : ℕ) → i < length ks → slice_get ks i ≡ Some (get_or ks i 0)
slice_get-at [] i h = absurd (omega arith)
slice_get-at (k ∷ ks) zero h = refl
slice_get-at (k ∷ ks) (suc i) h = slice_get-at ks i (omega arith)

other_key : (ks : List ℕ) (k key : ℕ) → holds_key ks k ≡ false → holds_key ks key ≡ true → nat_eq k key ≡ false
other_key ks k key none some = ne_eqb k key (λ same. false≢true (sym none ∙ ap (holds_key ks) same ∙ some))

-- to remove the index where a key stands leaves the others
pub remove-at : (ks : List ℕ) (i key : ℕ) → AreDistinct ks → slice_get ks i ≡ Some key → remove ks i ≡ without ks key
remove-at [] i key distinct h = cc
remove-at (k ∷ ks) zero key distinct h =
    let same : k ≡ key = cc in
    let absent : holds_key ks key ≡ false = ap (holds_key ks) (sym same) ∙ distinct.0 in
    sym (cond-true (nat_eq k key) (without ks key) (k ∷ without ks key) (eq-eqb k key same) ∙ without-absent ks key absent)
remove-at (k ∷ ks) (suc i) key distinct h =
    let other = other_key ks k key distinct.0 (holds_key-at ks i key h) in
    ap (λ (rest : List ℕ). k ∷ rest) (remove-at ks i key distinct.1 h) ∙ sym (cond-false (nat_eq k key) (without ks key) (k ∷ without ks key) other)

-- without one key there is still none twice
pub AreDistinct-without : (ks : List ℕ) (key : ℕ) → AreDistinct ks → AreDistinct (without ks key)
AreDistinct-without [] key distinct = tt
AreDistinct-without (k ∷ ks) key distinct = cond_both (nat_eq k key) (without ks key) (k ∷ without ks key) AreDistinct
    (λ e. AreDistinct-without ks key distinct.1)
    (λ e. ((let d = distinct.0 in let left = holds_key-without ks key k in let t = holds_key ks k in grind arith), AreDistinct-without ks key distinct.1))

pub AreDistinct-raised : (ks : List ℕ) (key : ℕ) → AreDistinct ks → AreDistinct (key ∷ without ks key)
AreDistinct-raised ks key distinct = (holds_key-without_same ks key, AreDistinct-without ks key distinct)

-- without one key there are no more
pub length-without-le : (ks : List ℕ) (key : ℕ) → length (without ks key) ≤ length ks
length-without-le [] key = omega arith
length-without-le (k ∷ ks) key = let rest = length-without-le ks key in cond_both (nat_eq k key) (without ks key) (k ∷ without ks key) (λ (ls : List ℕ). length ls ≤ suc (length ks)) (λ e. omega arith) (λ e. omega arith)

-- without a key that is there, there is one less
pub length-without : (ks : List ℕ) (key : ℕ) → AreDistinct ks → holds_key ks key ≡ true → length (without ks key) + 1 ≡ length ks
length-without [] key distinct h = cc
length-without (k ∷ ks) key distinct h = cond_both (nat_eq k key) (without ks key) (k ∷ without ks key) (λ (ls : List ℕ). length ls + 1 ≡ suc (length ks))
    (λ e. let absent : holds_key ks key ≡ false = ap (holds_key ks) (sym (eqb-true k key e)) ∙ distinct.0 in omega (arith, ap length (without-absent ks key absent)))
    (λ e. omega (arith, length-without ks key distinct.1 (let t = holds_key ks key in grind arith)))

-- equal keys stand at one index
pub same_index : (ks : List ℕ) (i j key : ℕ) → AreDistinct ks → slice_get ks i ≡ Some key → slice_get ks j ≡ Some key → i ≡ j
same_index [] i j key distinct h g = cc
same_index (k ∷ ks) zero zero key distinct h g = refl
same_index (k ∷ ks) zero (suc j) key distinct h g = let same : k ≡ key = cc in absurd (false≢true (sym distinct.0 ∙ ap (holds_key ks) same ∙ holds_key-at ks j key g))
same_index (k ∷ ks) (suc i) zero key distinct h g = let same : k ≡ key = cc in absurd (false≢true (sym distinct.0 ∙ ap (holds_key ks) same ∙ holds_key-at ks i key h))
same_index (k ∷ ks) (suc i) (suc j) key distinct h g = ap suc (same_index ks i j key distinct.1 h g)

-- the key at an index, read with a default
pub get_or-key : (ks : List ℕ) (i key d : ℕ) → slice_get ks i ≡ Some key → get_or ks i d ≡ key
get_or-key [] i key d h = cc
get_or-key (k ∷ ks) zero key d h = cc
get_or-key (k ∷ ks) (suc i) key d h = get_or-key ks i key d h

-- a stack without a key is a stack
pub IsStack-without : (ks : List ℕ) (key : ℕ) → IsStack ks → IsStack (without ks key)
IsStack-without ks key stack = record { few = omega (arith, length-without-le ks key, stack.few); distinct = AreDistinct-without ks key stack.distinct }

-- a stack with one of its keys put on top is a stack
pub IsStack-raised : (ks : List ℕ) (key : ℕ) → IsStack ks → holds_key ks key ≡ true → IsStack (key ∷ without ks key)
IsStack-raised ks key stack there = record { few = omega (arith, length-without ks key stack.distinct there, stack.few); distinct = AreDistinct-raised ks key stack.distinct }

-- the key taken out at an index and put on top, over the others
pub raised_is : (ks rest : List ℕ) (i key top : ℕ) → AreDistinct ks → slice_get ks i ≡ Some key → top ≡ get_or ks i top → rest ≡ remove ks i → top ∷ rest ≡ key ∷ without ks key
raised_is ks rest i key top distinct at first others =
    ap (λ (ls : List ℕ). top ∷ ls) (others ∙ remove-at ks i key distinct at) ∙ ap (λ (k : ℕ). k ∷ without ks key) (first ∙ get_or-key ks i key top at)

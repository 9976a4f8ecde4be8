-- The list of the numbers that have a spot, as spots are put in and taken out.
use Rattle.std.proofs.Common.{◌≡◌, ◌≢◌, ◌<◌, ◌||◌, ◌⊎◌, inl, inr, ℕ, suc, zero, Bool, true, false, nat_eq, List, [], ◌∷◌, ◌++◌, length, get_or, set, Option, Some, None, is_some, refl, sym, ap, ◌∙◌, subst, arith, get_or-set_same, get_or-set_other}
use Rattle.std.specs.List.{list_any, AllByRecursion, IsDistinct}
use Rattle.std.proofs.lemmas.Bool.{true≢false, cases_eq, or_parts, or_from, or_left, or_right, eqb-true, eq-eqb, ne_eqb}
use Rattle.std.proofs.lemmas.List.{get_or_default}
use Rattle.std.proofs.lemmas.List.Folds.{list_any-append}
use Rattle.std.proofs.lemmas.Map.Steps.{length-le_from_distinct_below}
use Rattle.shot_core.specs.Shot.{AreOnce, AreListed}
use Rattle.shot_core.specs.declared.spot.Spot.{Spot}

-- a number put at the end
pub AreOnce-put : (numbers : List ℕ) (number : ℕ) → AreOnce numbers → list_any (nat_eq number) numbers ≡ false → AreOnce (numbers ++ number ∷ [])
AreOnce-put [] number once absent = (refl, tt)
AreOnce-put (first ∷ numbers) number once absent =
    let parts = or_parts (nat_eq number first) (list_any (nat_eq number) numbers) absent in
    (list_any-append (nat_eq first) numbers (number ∷ []) ∙ or_from _ _ once.0 (or_from _ _ (turned number first parts.0) refl), AreOnce-put numbers number once.1 parts.1)
  where
    turned : (a b : ℕ) → nat_eq a b ≡ false → nat_eq b a ≡ false
    turned a b differ = grind arith

IsDistinct-once : (numbers : List ℕ) → AreOnce numbers → IsDistinct nat_eq numbers
unfolding IsDistinct
IsDistinct-once [] once = tt
IsDistinct-once (number ∷ numbers) once = (apart numbers once.0, IsDistinct-once numbers once.1)
  where
    apart : (ns : List ℕ) → list_any (nat_eq number) ns ≡ false → AllByRecursion (λ other. nat_eq number other ≡ false) ns
    apart [] none = tt
    apart (n ∷ ns) none = let parts = or_parts (nat_eq number n) (list_any (nat_eq number) ns) none in (parts.0, apart ns parts.1)

-- a number that has a spot is in range
pub within : (spots : List (Option Spot)) (key : ℕ) → is_some (get_or spots key None) ≡ true → key < length spots
within [] key some = absurd (true≢false (sym some))
within (spot ∷ spots) zero some = omega arith
within (spot ∷ spots) (suc key) some = omega (arith, within spots key some)

-- a read of a number in range, at whatever default
pub read-bare : (spots : List (Option Spot)) (key : ℕ) (read : Option Spot) → key < length spots → read ≡ get_or spots key read → is_some read ≡ false → is_some (get_or spots key None) ≡ false
read-bare spots key read low at bare = ap is_some (get_or_default spots key None read low ∙ sym at) ∙ bare

pub read-there : (spots : List (Option Spot)) (key : ℕ) (read : Option Spot) → key < length spots → read ≡ get_or spots key read → is_some read ≡ true → is_some (get_or spots key None) ≡ true
read-there spots key read low at there = ap is_some (get_or_default spots key None read low ∙ sym at) ∙ there

-- a number that stands in a list is in it
pub among-at : (numbers : List ℕ) (index : ℕ) → index < length numbers → list_any (nat_eq (get_or numbers index 0)) numbers ≡ true
among-at [] index less = absurd (omega arith)
among-at (n ∷ ns) zero less = or_left _ _ (eq-eqb n n refl)
among-at (n ∷ ns) (suc index) less = or_right _ _ (among-at ns index (omega arith))

-- where a number has no spot, there is room in the list for one more
pub room : (spots : List (Option Spot)) (numbers : List ℕ) (key : ℕ) → key < length spots → AreListed spots numbers → AreOnce numbers → is_some (get_or spots key None) ≡ false → length numbers < length spots
room spots numbers key low listed once bare =
    omega (arith, length-le_from_distinct_below (key ∷ numbers) (length spots) (IsDistinct-once (key ∷ numbers) (listed key ∙ bare, once)) (λ q. low_each q (nat_eq q key) refl))
  where
    low_each : (q : ℕ) (b : Bool) → nat_eq q key ≡ b → (b || list_any (nat_eq q) numbers) ≡ true → q < length spots
    low_each q true same among = subst (λ (n : ℕ). n < length spots) (sym (eqb-true q key same)) low
    low_each q false differ among = within spots q (sym (listed q) ∙ among)

-- a spot is put in, and its number is in the list then
AreListed-put : (spots : List (Option Spot)) (numbers put : List ℕ) (key : ℕ) (spot : Spot) → key < length spots → AreListed spots numbers → ((k : ℕ) → list_any (nat_eq k) put ≡ (list_any (nat_eq k) numbers || nat_eq k key)) → AreListed (set spots key (Some spot)) put
AreListed-put spots numbers put key spot low listed added k = added k ∙ by (cases_eq k key)
  where
    by : (k ≡ key) ⊎ (k ≢ key) → (list_any (nat_eq k) numbers || nat_eq k key) ≡ is_some (get_or (set spots key (Some spot)) k None)
    by (inl same) = or_right (list_any (nat_eq k) numbers) (nat_eq k key) (eq-eqb k key same) ∙ sym (ap is_some (ap (λ (n : ℕ). get_or (set spots key (Some spot)) n None) same ∙ get_or-set_same spots key (Some spot) None low))
    by (inr differ) = alone (list_any (nat_eq k) numbers) (nat_eq k key) (ne_eqb k key differ) ∙ listed k ∙ sym (ap is_some (get_or-set_other spots key k (Some spot) None differ))
      where
        alone : (a b : Bool) → b ≡ false → (a || b) ≡ a
        alone a b off = grind arith

pub AreListed-more : (spots : List (Option Spot)) (numbers : List ℕ) (key : ℕ) (spot : Spot) → key < length spots → AreListed spots numbers → AreListed (set spots key (Some spot)) (numbers ++ key ∷ [])
AreListed-more spots numbers key spot low listed =
    AreListed-put spots numbers (numbers ++ key ∷ []) key spot low listed (λ k. list_any-append (nat_eq k) numbers (key ∷ []) ∙ ap (λ (b : Bool). list_any (nat_eq k) numbers || b) (last (nat_eq k key)))
  where
    last : (a : Bool) → (a || false) ≡ a
    last a = grind arith

pub AreListed-again : (spots : List (Option Spot)) (numbers : List ℕ) (key : ℕ) (spot : Spot) → key < length spots → AreListed spots numbers → is_some (get_or spots key None) ≡ true → AreListed (set spots key (Some spot)) numbers
AreListed-again spots numbers key spot low listed some =
    AreListed-put spots numbers numbers key spot low listed (λ k. by k (nat_eq k key) refl)
  where
    by : (k : ℕ) (b : Bool) → nat_eq k key ≡ b → list_any (nat_eq k) numbers ≡ (list_any (nat_eq k) numbers || b)
    by k true same = let there : list_any (nat_eq k) numbers ≡ true = ap (λ (n : ℕ). list_any (nat_eq n) numbers) (eqb-true k key same) ∙ listed key ∙ some in there ∙ sym (or_right (list_any (nat_eq k) numbers) true refl)
    by k false differ = let a = list_any (nat_eq k) numbers in grind arith

-- each number that isn't to come has no spot
abbrev pub IsCleared : List (Option Spot) → List ℕ → Type 0
IsCleared spots later = (key : ℕ) → list_any (nat_eq key) later ≡ false → get_or spots key None ≡ None

pub IsCleared-none : (spots : List (Option Spot)) (numbers : List ℕ) → AreListed spots numbers → IsCleared spots numbers
IsCleared-none spots numbers listed key off = by (get_or spots key None) (sym (listed key) ∙ off)
  where
    by : (o : Option Spot) → is_some o ≡ false → o ≡ None
    by None none = refl
    by (Some spot) none = absurd (true≢false none)

pub IsCleared-more : (spots : List (Option Spot)) (number : ℕ) (later : List ℕ) → number < length spots → IsCleared spots (number ∷ later) → IsCleared (set spots number None) later
IsCleared-more spots number later low before key off = by (cases_eq key number)
  where
    by : (key ≡ number) ⊎ (key ≢ number) → get_or (set spots number None) key None ≡ None
    by (inl same) = ap (λ (k : ℕ). get_or (set spots number None) k None) same ∙ get_or-set_same spots number None None low
    by (inr differ) = get_or-set_other spots number key None None differ ∙ before key (or_from _ _ (ne_eqb key number differ) off)

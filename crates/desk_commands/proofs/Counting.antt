-- A list of keys, none of them twice, is no longer than a list that holds them all.
use Rattle.std.proofs.Common.{◌≡◌, ℕ, zero, suc, ◌+◌, ◌<◌, ◌≤◌, Bool, true, false, cond, ◌||◌, nat_eq, List, [], ◌∷◌, length, refl, sym, ◌∙◌, arith}
use Rattle.std.proofs.lemmas.Bool.{true≢false, ne_eqb, eqb-false, and_parts, and_from, or_parts}
use Rattle.std.specs.List.{list_all, range_with_len}
use Rattle.stack_core.specs.Stack.{holds_key, without, AreDistinct}
use Rattle.stack_core.proofs.Keys.{holds_key-without, length-without-le}

nat_eq_symm : (a b : ℕ) → nat_eq a b ≡ false → nat_eq b a ≡ false
nat_eq_symm a b h = ne_eqb b a (λ e. eqb-false a b h (sym e))

-- a list that holds a key is longer than without it
shorter : (ks : List ℕ) (key : ℕ) → holds_key ks key ≡ true → length (without ks key) + 1 ≤ length ks
shorter [] key held = absurd (true≢false (sym held))
shorter (k ∷ ks) key held = by (shorter ks key) (nat_eq k key) held
  where
    by : (holds_key ks key ≡ true → length (without ks key) + 1 ≤ length ks) → (b : Bool) → (b || holds_key ks key) ≡ true → length (cond b (without ks key) (k ∷ without ks key)) + 1 ≤ suc (length ks)
    by rest true h = omega (arith, length-without-le ks key)
    by rest false h = omega (arith, rest h)

-- keys other than one are held by the list without it
held_without : (xs ks : List ℕ) (key : ℕ) → holds_key ks key ≡ false → list_all (holds_key xs) ks ≡ true → list_all (holds_key (without xs key)) ks ≡ true
held_without xs [] key absent held = refl
held_without xs (k ∷ ks) key absent held =
    let apart = or_parts (nat_eq k key) (holds_key ks key) absent in
    let parts = and_parts (holds_key xs k) (list_all (holds_key xs) ks) held in
    let here : holds_key (without xs key) k ≡ true = holds_key-without xs key k ∙ rw (parts.0, nat_eq_symm k key apart.0) refl in
    and_from _ _ here (held_without xs ks key apart.1 parts.1)

pub no_longer : (ks xs : List ℕ) → AreDistinct ks → list_all (holds_key xs) ks ≡ true → length ks ≤ length xs
no_longer [] xs distinct held = omega arith
no_longer (k ∷ ks) xs distinct held =
    let parts = and_parts (holds_key xs k) (list_all (holds_key xs) ks) held in
    omega (arith, no_longer ks (without xs k) distinct.1 (held_without xs ks k distinct.0 parts.1), shorter xs k parts.0)

-- a range holds the numbers from its first on
pub range_holds : (first n key : ℕ) → first ≤ key → key < first + n → holds_key (range_with_len first n) key ≡ true
range_holds first zero key low high = absurd (omega arith)
range_holds first (suc n) key low high = by (λ (differ : first ≡ key → ⊥). range_holds (first + 1) n key (omega arith) (omega arith)) (nat_eq first key) refl
  where
    by : ((first ≡ key → ⊥) → holds_key (range_with_len (first + 1) n) key ≡ true) → (b : Bool) → nat_eq first key ≡ b → (b || holds_key (range_with_len (first + 1) n) key) ≡ true
    by rest true q = refl
    by rest false q = rest (eqb-false first key q)

-- Sums over a list of views when one of them changes, and what holds of each.
use Rattle.std.proofs.Common.{◌≡◌, ℕ, zero, suc, ◌+◌, ◌≤◌, List, [], ◌∷◌, ◌++◌, set, get_or, refl, sym, ap, subst, arith}
use mathlib.Core.Option.{some, some-injective, some-ne-none}
use lib.ListN.{get_elem?}
use Rattle.std.specs.List.{All, sum_by}
use Rattle.std.proofs.lemmas.List.Elements.{All-head, All-tail, All-cons, All-nil}
use Rattle.std.proofs.lemmas.List.Sums.{sum_by-cons}
use Rattle.turnstile.specs.Tickets.{total}

module _ {X : Type 0} where
  pub total-append : (f : X → ℕ) (xs ys : List X) → total f (xs ++ ys) ≡ total f xs + total f ys
  total-append f [] ys = omega arith
  total-append f (x ∷ xs) ys = omega (arith, total-append f xs ys)

  pub total-set : (f : X → ℕ) (xs : List X) (i : ℕ) (v w : X) → get_elem? xs i ≡ some v → total f (set xs i w) + f v ≡ total f xs + f w
  total-set f [] i v w at = absurd (some-ne-none v (sym at))
  total-set f (x ∷ xs) zero v w at = let e : f x ≡ f v = ap f (some-injective x v at) in omega arith
  total-set f (x ∷ xs) (suc i) v w at = omega (arith, total-set f xs i v w at)

  pub total_has : (f : X → ℕ) (xs : List X) (i : ℕ) (v : X) → get_elem? xs i ≡ some v → f v ≤ total f xs
  total_has f [] i v at = absurd (some-ne-none v (sym at))
  total_has f (x ∷ xs) zero v at = let e : f x ≡ f v = ap f (some-injective x v at) in omega arith
  total_has f (x ∷ xs) (suc i) v at = omega (arith, total_has f xs i v at)

  pub total-le : (f g : X → ℕ) (xs : List X) → ((x : X) → f x ≤ g x) → total f xs ≤ total g xs
  total-le f g [] le = omega arith
  total-le f g (x ∷ xs) le = omega (arith, le x, total-le f g xs le)

  pub total_none : (f : X → ℕ) (xs : List X) → total f xs ≡ 0 → All (λ x. f x ≡ 0) xs
  total_none f [] e = All-nil (λ x. f x ≡ 0)
  total_none f (x ∷ xs) e = All-cons (λ x. f x ≡ 0) x xs (omega arith) (total_none f xs (omega arith))

  pub total_as_sum : (f : X → ℕ) (xs : List X) → total f xs ≡ sum_by f xs
  total_as_sum f [] = refl
  total_as_sum f (x ∷ xs) = omega (arith, total_as_sum f xs, sum_by-cons f x xs)

  pub all_at : (P : X → Type 0) (xs : List X) (i : ℕ) (v : X) → All P xs → get_elem? xs i ≡ some v → P v
  all_at P [] i v all at = absurd (some-ne-none v (sym at))
  all_at P (x ∷ xs) zero v all at = subst P (some-injective x v at) (All-head P x xs all)
  all_at P (x ∷ xs) (suc i) v all at = all_at P xs i v (All-tail P x xs all) at

  pub all_both : (P Q R : X → Type 0) (xs : List X) → ((x : X) → P x → Q x → R x) → All P xs → All Q xs → All R xs
  all_both P Q R xs both p q = λ k d h. both (get_or xs k d) (p k d h) (q k d h)

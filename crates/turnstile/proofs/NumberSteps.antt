-- What each kind of step leaves of the numbers of passes.
use Rattle.std.proofs.Common.{◌≡◌, ℕ, ◌+◌, ◌<◌, ◌≤◌, List, [], ◌∷◌, ◌++◌, length, set, ◌∙◌, subst, arith}
use Rattle.std.specs.Prelude.{nat_lt}
use Rattle.std.proofs.lemmas.Bool.Decides.{nat_tests}
use mathlib.Core.Option.{some}
use lib.ListN.{get_elem?}
use Rattle.turnstile.specs.declared.view.View.{View}
use Rattle.turnstile.specs.Views.{parts}
use Rattle.turnstile.specs.Tickets.{total, once}
use Rattle.turnstile.specs.Numbers.{numbered, Numbers}
use Rattle.turnstile.proofs.Totals.{total-set, total-append, total_has}

below_from_once : (n made : ℕ) → 1 ≤ once (nat_lt n made) → n < made
below_from_once n made h = grind (arith, nat_tests)

module _ {E : Type 0} (number : E → ℕ) (made opening : ℕ) (history : List E) where
  -- a step after which a pass has as many parts of each number
  pub numbers_stay : (views : List (View E)) (id : ℕ) (v w : View E) → get_elem? views id ≡ some v → ((n : ℕ) → numbered n (parts w) ≡ numbered n (parts v))
      → length (parts w) ≡ length (parts v) → Numbers number made opening history views → Numbers number made opening history (set views id w)
  numbers_stay views id v w at same long r = record {
    each = λ n. let s = total-set (λ (u : View E). numbered n (parts u)) views id v w at in let h = same n in
        (let k : total (λ (u : View E). numbered n (parts u)) (set views id w) ≡ total (λ (u : View E). numbered n (parts u)) views = omega arith in k ∙ r.each n);
    all = let s = total-set (λ (u : View E). length (parts u)) views id v w at in let e = r.all in omega arith;
    entries = r.entries;
  }

  -- two views change, and have as many parts of each number together
  pub numbers_join : (views : List (View E)) (id other : ℕ) (v w both spent : View E) → get_elem? views id ≡ some v → get_elem? (set views id both) other ≡ some w
      → ((n : ℕ) → numbered n (parts both) + numbered n (parts spent) ≡ numbered n (parts v) + numbered n (parts w))
      → length (parts both) + length (parts spent) ≡ length (parts v) + length (parts w)
      → Numbers number made opening history views → Numbers number made opening history (set (set views id both) other spent)
  numbers_join views id other v w both spent at there same long r = record {
    each = λ n. let s = total-set (λ (u : View E). numbered n (parts u)) views id v both at in
        let t = total-set (λ (u : View E). numbered n (parts u)) (set views id both) other w spent there in let h = same n in
        (let k : total (λ (u : View E). numbered n (parts u)) (set (set views id both) other spent) ≡ total (λ (u : View E). numbered n (parts u)) views = omega arith in k ∙ r.each n);
    all = let s = total-set (λ (u : View E). length (parts u)) views id v both at in let t = total-set (λ (u : View E). length (parts u)) (set views id both) other w spent there in let e = r.all in omega arith;
    entries = r.entries;
  }

  pub numbers_split : (views : List (View E)) (id : ℕ) (v left right : View E) → get_elem? views id ≡ some v
      → ((n : ℕ) → numbered n (parts left) + numbered n (parts right) ≡ numbered n (parts v))
      → length (parts left) + length (parts right) ≡ length (parts v)
      → Numbers number made opening history views → Numbers number made opening history (set views id left ++ right ∷ [])
  numbers_split views id v left right at same long r = record {
    each = λ n. let s = total-set (λ (u : View E). numbered n (parts u)) views id v left at in
        let t = total-append (λ (u : View E). numbered n (parts u)) (set views id left) (right ∷ []) in let h = same n in
        (let k : total (λ (u : View E). numbered n (parts u)) (set views id left ++ right ∷ []) ≡ total (λ (u : View E). numbered n (parts u)) views = omega arith in k ∙ r.each n);
    all = let s = total-set (λ (u : View E). length (parts u)) views id v left at in let t = total-append (λ (u : View E). length (parts u)) (set views id left) (right ∷ []) in let e = r.all in omega arith;
    entries = r.entries;
  }

  -- the number of a part is below the number of passes
  pub number_below : (views : List (View E)) (id n : ℕ) (v : View E) → get_elem? views id ≡ some v → 1 ≤ numbered n (parts v) → Numbers number made opening history views → n < made
  number_below views id n v at has r = below_from_once n made (subst (λ (k : ℕ). 1 ≤ k) (r.each n)
      (let h = total_has (λ (u : View E). numbered n (parts u)) views id v at in omega arith))

-- The table as it is made meets the rule.
use Rattle.std.proofs.Common.{◌≡◌, ℕ, zero, suc, ◌+◌, ◌-◌, ◌%◌, ◌^◌, ◌<◌, List, [], ◌∷◌, length, drop, refl, sym, ap, ◌∙◌, subst, arith, inl}
use Rattle.std.specs.Prelude.{Some, nat_eq, nat_lt, nat_le, ◌&&◌}
use Rattle.std.specs.List.{All}
use Rattle.std.proofs.lemmas.Bool.Decides.{nat_tests}
use Rattle.std.proofs.lemmas.List.{drop_all}
use Rattle.std.proofs.lemmas.List.Elements.{All-cons, All-nil, All-same}
use Rattle.atomic_table.specs.Table.{State}
use Rattle.atomic_table.specs.Table as table
use Rattle.turnstile.specs.Entries.{carrying, added, Tallies}
use Rattle.turnstile.specs.Views.{fresh, fresh_from, beginning}
use Rattle.turnstile.specs.Tickets.{once}
use Rattle.turnstile.specs.Numbers.{numbered}
use Rattle.turnstile.specs.Rule.{Fits, Stands}
use Rattle.turnstile.proofs.Growth.{append_nil}

none_between : (t : ℕ) → 0 ≡ once (nat_le 0 t && nat_lt t 0)
none_between t = grind (arith, nat_tests)

one_more_number : (n k c : ℕ) (m : ℕ) → m ≡ once (nat_le (suc k) n && nat_lt n (suc k + c)) → once (nat_eq n k) + m ≡ once (nat_le k n && nat_lt n (k + suc c))
one_more_number n k c m e = grind (arith, nat_tests)

from_zero : (n made : ℕ) → once (nat_le 0 n && nat_lt n (0 + made)) ≡ once (nat_lt n made)
from_zero n made = grind (arith, nat_tests)

no_number : (n k : ℕ) → 0 ≡ once (nat_le k n && nat_lt n (k + 0))
no_number n k = grind (arith, nat_tests)

module _ {E : Type 0} where
  numbers_of_fresh : (es : List E) (n k c : ℕ) → numbered n (fresh_from es k c) ≡ once (nat_le k n && nat_lt n (k + c))
  numbers_of_fresh es n k zero = no_number n k
  numbers_of_fresh es n k (suc c) = one_more_number n k c (numbered n (fresh_from es (suc k) c)) (numbers_of_fresh es n (suc k) c)

  length_of_fresh : (es : List E) (k c : ℕ) → length (fresh_from es k c) ≡ c
  length_of_fresh es k zero = refl
  length_of_fresh es k (suc c) = omega (arith, length_of_fresh es (suc k) c)

  fresh_tallies : (number : E → ℕ) (es : List E) (k : ℕ) → Tallies number (length es) es (fresh es k)
  unfolding added
  fresh_tallies number es k =
      let none : carrying number k (drop (length es) es) ≡ [] = ap (carrying number k) (drop_all (length es) es (omega arith)) in
      record { begins = ([], sym (append_nil es)); later = omega arith; mine = none; mine_seen = none }

  all_fresh_tally : (number : E → ℕ) (es : List E) (k c : ℕ) → All (Tallies number (length es) es) (fresh_from es k c)
  all_fresh_tally number es k zero = All-nil (Tallies number (length es) es)
  all_fresh_tally number es k (suc c) = All-cons (Tallies number (length es) es) (fresh es k) (fresh_from es (suc k) c) (fresh_tallies number es k) (all_fresh_tally number es (suc k) c)

module _ {A E : Type 0} (entries : A → List E) (number : E → ℕ) where
  opened : (value : A) (made len : ℕ) → len ≡ length (entries value) % 2 ^ 64
      → Stands entries number (suc made) (length (entries value)) (table.opening (0 ∷ 0 ∷ len ∷ []) (Some value ∷ []) (beginning (suc made) (entries value) 0 made))
  opened value made len is =
      let es = entries value in let v = beginning (suc made) (entries value) 0 made in record {
        next = 0;
        turn = 0;
        history = entries value;
        words = ap (λ (k : ℕ). 0 ∷ 0 ∷ k ∷ []) is;
        tickets = record { each = λ t. none_between t; out = refl };
        numbers = record {
          each = λ n. let h : numbered n (fresh_from (entries value) 0 (suc made)) ≡ once (nat_lt n (suc made)) = numbers_of_fresh (entries value) n 0 (suc made) ∙ from_zero n (suc made) in
              (let k : numbered n (fresh_from (entries value) 0 (suc made)) + 0 ≡ numbered n (fresh_from (entries value) 0 (suc made)) = omega arith in k ∙ h);
          all = omega (arith, length_of_fresh (entries value) 1 made);
          entries = All-same (λ (e : E). number e < suc made) (drop (length (entries value)) (entries value)) [] (drop_all (length (entries value)) (entries value) (omega arith)) (All-nil (λ (e : E). number e < suc made));
        };
        turns = inl record { value = value; home = refl; has = refl; empty = refl };
        fits = All-cons (Fits number (suc made) (length (entries value)) 0 (entries value)) (beginning (suc made) (entries value) 0 made) []
            record { knows = (refl, refl); turn_is = tt; tallies = all_fresh_tally number (entries value) 0 (suc made) }
            (All-nil (Fits number (suc made) (length (entries value)) 0 (entries value)));
      }

  pub opens : (value : A) (made len : ℕ) → 0 < made → len ≡ length (entries value) % 2 ^ 64
      → Stands entries number made (length (entries value)) (table.opening (0 ∷ 0 ∷ len ∷ []) (Some value ∷ []) (beginning made (entries value) 0 (made - 1)))
  opens value made len some is =
      let e : suc (made - 1) ≡ made = omega arith in
      subst (λ (m : ℕ). Stands entries number m (length (entries value)) (table.opening (0 ∷ 0 ∷ len ∷ []) (Some value ∷ []) (beginning m (entries value) 0 (made - 1)))) e (opened value (made - 1) len is)

-- A count with nothing behind it.
use Rattle.std.proofs.Common.{◌≡◌, ℕ, Bool, true, false, cond, List, [], ◌∷◌, ◌++◌, length, Option, Some, None, Result, Ok, Err, refl, sym, ap, subst, ◌∙◌, arith, append-nil}
use Rattle.cmd_words.specs.Language.{Language, ◌▸◌, stands_for}
use Rattle.cmd_words.specs.Productions.{are_digits, number_of, count}
use Rattle.cmd_text.specs.Reading.{◌>>=◌, count_at}
use Rattle.cmd_text.specs.ReadingLines.{nothing_at}
use Rattle.cmd_text.proofs.Settling.{Settles}
use Rattle.cmd_text.proofs.Parts.{count_reads}
use Rattle.cmd_text.proofs.Lines.{nothing_apart, nothing_reads}

-- a count and the end
abbrev alone : Language ℕ
alone = count ▸ λ n. stands_for n

alone_on : (xs : List ℕ) → are_digits xs ≡ true → alone xs (number_of xs)
alone_on xs are = record { front = xs; after = []; value = number_of xs; split = sym (append-nil xs); stands = (are, refl); goes_on = (refl, refl) }

alone_back : (xs : List ℕ) (n : ℕ) → alone xs n → are_digits xs ≡ true
alone_back xs n h = ap are_digits (h.split ∙ ap (λ (u : List ℕ). h.front ++ u) h.goes_on.0 ∙ append-nil h.front) ∙ h.stands.0

settled : (xs : List ℕ) (r : Result (ℕ × List ℕ) ℕ) → count_at xs ≡ r → Settles alone xs (r >>= λ n. nothing_at n.0 n.1)
settled xs r e =
    let P : Result (ℕ × List ℕ) ℕ → Type 0 = λ z. Settles alone xs (z >>= λ n. nothing_at n.0 n.1) in
    subst P e ((count_reads (λ n. stands_for n) nothing_at (λ n. nothing_apart _ n) nothing_reads).settles xs)

-- the number that the bytes write
abbrev pub written : List ℕ → Option ℕ
written xs = cond (are_digits xs) (Some (number_of xs)) None

pub none_written : (xs : List ℕ) → ((n : ℕ) → alone xs n → ⊥) → None ≡ written xs
none_written xs none = by (are_digits xs) refl
  where
    by : (are : Bool) → are_digits xs ≡ are → None ≡ cond are (Some (number_of xs)) None
    by true is = absurd (none (number_of xs) (alone_on xs is))
    by false is = refl

-- what was read is all of the bytes, or some of them, or nothing was
pub count_alone : (xs : List ℕ) (n : ℕ) (rest : List ℕ) → count_at xs ≡ Ok (n, rest) → length rest ≡ 0 → Some n ≡ written xs
count_alone xs n [] e empty =
    let s = settled xs (Ok (n, [])) e in
    let are : are_digits xs ≡ true = alone_back xs n s.0 in
    rw are (ap (λ (k : ℕ). Some k) (sym (s.1 (number_of xs) (alone_on xs are))))
count_alone xs n (x ∷ rest) e empty = absurd (omega (arith, empty))

pub count_more : (xs : List ℕ) (n : ℕ) (rest : List ℕ) → count_at xs ≡ Ok (n, rest) → (length rest ≡ 0 → ⊥) → None ≡ written xs
count_more xs n [] e more = absurd (more refl)
count_more xs n (x ∷ rest) e more = none_written xs (settled xs (Ok (n, x ∷ rest)) e).none

pub count_none : (xs : List ℕ) (left : ℕ) → count_at xs ≡ Err left → None ≡ written xs
count_none xs left e = none_written xs (settled xs (Err left) e).none

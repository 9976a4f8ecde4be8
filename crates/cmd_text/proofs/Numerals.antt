-- What decimal digits write, and how large it is.
use Rattle.std.proofs.Common.{◌≡◌, ℕ, ◌^◌, ◌≤◌, ◌<◌, true, ◌&&◌, leb, List, [], ◌∷◌, length, sym, arith, fold, rules, lit<}
use Rattle.std.specs.Prelude.{decimal, ◌+◌, ◌*◌, ◌-◌}
use Rattle.std.specs.List.{list_all}
use Rattle.std.proofs.Math.Nat.{pow-le-pow_right}
use Rattle.std.proofs.lemmas.Bool.{and_parts, and_from, le-leb, leb-true, false≢true}
use Rattle.std.proofs.lemmas.Fmt.{decimal_nonempty, length-decimal-le, digits_decimal, digits_value-decimal}
use Rattle.std.proofs.lemmas.Str.Parse.{IsNumeralModel, numerals_by_fold, digits_value_short}
use Rattle.kind_core.specs.Bytes.{is_digit}
use Rattle.cmd_words.specs.Productions.{are_digits, number_of, count}

pub numerals : IsNumeralModel (λ ds. list_all is_digit ds ≡ true) number_of
numerals = numerals_by_fold _ (search rules) (λ n ds. fold (λ (k d : ℕ). 10 * k + (d - 48)) n ds) (search rules)

-- 1 to 7 bytes, each a digit
pub record AreDigits (ds : List ℕ) : Type 0 where
  pub some : 0 < length ds
  pub few : length ds ≤ 7
  pub all : list_all is_digit ds ≡ true

pub digits-back : (ds : List ℕ) → are_digits ds ≡ true → AreDigits ds
digits-back [] e = absurd (false≢true e)
digits-back (d ∷ ds) e =
    let outer = and_parts (is_digit d && leb (length ds) 6) (list_all is_digit ds) e in
    let inner = and_parts (is_digit d) (leb (length ds) 6) outer.0 in
    record { some = omega arith; few = omega (arith, leb-true (length ds) 6 inner.1); all = and_from _ _ inner.0 outer.1 }

digits-on : (ds : List ℕ) → AreDigits ds → are_digits ds ≡ true
digits-on [] are = absurd (omega (arith, are.some))
digits-on (d ∷ ds) are =
    let parts = and_parts (is_digit d) (list_all is_digit ds) are.all in
    and_from _ _ (and_from _ _ parts.0 (le-leb (length ds) 6 (omega (arith, are.few)))) parts.1

pub power_7 : (k : ℕ) → k ≤ 7 → 10 ^ k ≤ 10000000
power_7 k few =
    let most : 10 ^ k ≤ 10 ^ 7 = pow-le-pow_right (lit< tt) few in
    omega arith

count_small : (ds : List ℕ) (n : ℕ) → count ds n → n < 10000000
count_small ds n h =
    let are = digits-back ds h.0 in
    omega (arith, h.1, digits_value_short numerals ds 7 are.all are.few)

-- what is written in decimal, where it has at most 7 digits
pub decimal_is_count : (n : ℕ) → n < 10000000 → count (decimal n) n
decimal_is_count n small =
    let word : n < 2 ^ 64 = omega arith in
    (digits-on (decimal n) (record { some = decimal_nonempty n word; few = length-decimal-le 7 n (omega arith) (omega arith) word; all = digits_decimal numerals n word }), sym (digits_value-decimal numerals n word))

pub count_printed : (u : List ℕ) (n : ℕ) → count u n → count (decimal n) n
count_printed u n h = decimal_is_count n (count_small u n h)

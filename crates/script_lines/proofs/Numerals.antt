-- The numbers and clients that the code reads are those of the grammar.
use Rattle.std.proofs.Common.{◌≡◌, ◌≢◌, ℕ, ◌≤◌, ◌<◌, Bool, true, false, cond, ◌&&◌, leb, List, [], ◌∷◌, get_or, Option, Some, None, refl, sym, ap, subst, ◌∙◌, arith}
use Rattle.std.specs.Prelude.{decimal, ◌==◌, nat_le, IfSome}
use Rattle.std.specs.List.{list_all}
use Rattle.std.proofs.lemmas.Bool.{and_parts, leb-true, le-leb}
use Rattle.std.proofs.lemmas.Fmt.{first_decimal, decimal-digits_value}
use Rattle.std.proofs.lemmas.Bool.Decides.{nat_tests}
use Rattle.kind_core.specs.Bytes.{is_digit}
use Rattle.cmd_words.specs.Productions.{are_digits, number_of, count}
use Rattle.cmd_text.proofs.Numerals.{numerals, AreDigits, digits-back, decimal_is_count}
use Rattle.script_lines.specs.Numbers.{number_from, IsClient, client_number}
use Rattle.script_lines.specs.Reading.{number_at, begins_with_zero, client_at}

-- the test holds
pub allowed_back : {A : Type 0} (test : Bool) (value answer : A) → cond test (Some value) None ≡ Some answer → (test ≡ true) × (value ≡ answer)
allowed_back true value answer e = (refl, cc)
allowed_back false value answer e = absurd (cc)

-- the test is false, and the rest answers
pub refused_back : {A : Type 0} (test : Bool) (rest : Option A) (answer : A) → cond test None rest ≡ Some answer → (test ≡ false) × (rest ≡ Some answer)
refused_back true rest answer e = absurd (cc)
refused_back false rest answer e = (refl, e)

-- ---- numbers

pub number_at-back : (least most : ℕ) (digits : List ℕ) (n : ℕ) → number_at least most digits ≡ Some n → number_from least most digits n
unfolding number_at
number_at-back least most digits n e =
    let test : Bool = (are_digits digits && nat_le least (number_of digits)) && nat_le (number_of digits) most in
    let number : (test ≡ true) × (number_of digits ≡ n) = allowed_back test (number_of digits) n e in
    let outer = and_parts (are_digits digits && nat_le least (number_of digits)) (nat_le (number_of digits) most) number.0 in
    let inner = and_parts (are_digits digits) (nat_le least (number_of digits)) outer.0 in
    let within : number_from least most digits (number_of digits) = ((inner.0, refl), leb-true least (number_of digits) inner.1, leb-true (number_of digits) most outer.1) in
    subst (λ k. number_from least most digits k) number.1 within

pub number_at-on : (least most : ℕ) (digits : List ℕ) (n : ℕ) → number_from least most digits n → number_at least most digits ≡ Some n
unfolding number_at
number_at-on least most digits n h =
    let low : nat_le least (number_of digits) ≡ true = le-leb least (number_of digits) (subst (λ k. least ≤ k) h.0.1 h.1) in
    let high : nat_le (number_of digits) most ≡ true = le-leb (number_of digits) most (subst (λ k. k ≤ most) h.0.1 h.2) in
    rw (h.0.0, low, high) (ap (λ (k : ℕ). Some k) (sym h.0.1))

-- ---- a client's number

other_than : (a b : ℕ) → (a == b) ≡ false → a ≢ b
other_than a b e = grind (arith, nat_tests)

pub client_at-back : (digits : List ℕ) (client : ℕ) → client_at digits ≡ Some client → client_number digits client
unfolding client_at
client_at-back digits client e = by digits (refused_back (begins_with_zero digits) (number_at 1 16 digits) client e)
  where
    by : (digits : List ℕ) → (begins_with_zero digits ≡ false) × (number_at 1 16 digits ≡ Some client) → client_number digits client
    by [] plain = absurd (let none : are_digits [] ≡ true = (number_at-back 1 16 [] client plain.1).0.0 in cc)
    by (d ∷ ds) plain =
        let number : number_from 1 16 (d ∷ ds) client = number_at-back 1 16 (d ∷ ds) client plain.1 in
        let nonzero : d ≢ 48 = other_than d 48 plain.0 in
        let small : number_of (d ∷ ds) ≤ 16 = subst (λ k. k ≤ 16) number.0.1 number.2 in
        let written : decimal (number_of (d ∷ ds)) ≡ d ∷ ds = decimal-digits_value numerals (d ∷ ds) (digits-back (d ∷ ds) number.0.0).all (omega arith) (λ z. absurd (nonzero z)) (omega arith) in
        (sym written ∙ ap decimal (sym number.0.1), record { least = number.1; greatest = number.2 })

-- the digits are the client's number, and the first of them is `first`
pub record IsNumberOf (client : ℕ) (digits : List ℕ) : Type 0 where
  pub first : ℕ
  pub others : List ℕ
  pub split : digits ≡ first ∷ others
  pub from : 48 ≤ first
  pub upto : first ≤ 57
  pub all : list_all is_digit digits ≡ true
  pub reads : client_at digits ≡ Some client

pub printed_client : (client : ℕ) → IsClient client → IsNumberOf client (decimal client)
unfolding client_at
printed_client client is =
    by (decimal client) (decimal_is_count client (omega (arith, is.greatest))) (first_decimal client (omega (arith, is.least)) (omega (arith, is.greatest)))
  where
    by : (digits : List ℕ) → count digits client → 48 < get_or digits 0 0 → IsNumberOf client digits
    by [] number above = absurd (omega (arith, above))
    by (d ∷ ds) number above =
        let are : AreDigits (d ∷ ds) = digits-back (d ∷ ds) number.0 in
        let digit = and_parts (is_digit d) (list_all is_digit ds) are.all in
        let bounds = and_parts (leb 48 d) (leb d 57) digit.0 in
        let nonzero : (d == 48) ≡ false = grind (arith, nat_tests) in
        record {
          first = d;
          others = ds;
          split = refl;
          from = omega (arith, above);
          upto = leb-true d 57 bounds.1;
          all = are.all;
          reads = rw nonzero (number_at-on 1 16 (d ∷ ds) client (number, is.least, is.greatest));
        }

pub client_at-on : (digits : List ℕ) (client : ℕ) → client_number digits client → client_at digits ≡ Some client
client_at-on digits client h = ap client_at h.0 ∙ (printed_client client h.1).reads

-- what is read as a number is one
pub found_number : (result : Option ℕ) (least most : ℕ) (digits : List ℕ) → result ≡ number_at least most digits → IfSome result (λ n. number_from least most digits n)
found_number None least most digits e = tt
found_number (Some n) least most digits e = number_at-back least most digits n (sym e)

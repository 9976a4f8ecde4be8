-- The bytes of a name print.
use Rattle.std.proofs.Common.{◌≡◌, ℕ, ◌≤◌, true, ◌&&◌, ◌||◌, ◌==◌, leb, List, [], ◌∷◌, length, refl, ap, arith, inl, inr}
use Rattle.std.specs.List.{list_all}
use Rattle.std.proofs.lemmas.Bool.{and_parts, and_from, or_cases, leb-true, le-leb, eqb-true, false≢true}
use Rattle.kind_core.specs.Bytes.{is_between, is_letter, is_digit, is_name_byte, is_name, is_printable}

within : (low high b : ℕ) → 32 ≤ low → high ≤ 126 → is_between low high b ≡ true → is_printable b ≡ true
within low high b l h e =
    let p = and_parts (leb low b) (leb b high) e in
    let m : low ≤ b = leb-true low b p.0 in
    let n : b ≤ high = leb-true b high p.1 in
    and_from _ _ (le-leb 32 b (omega arith)) (le-leb b 126 (omega arith))

letter_prints : (b : ℕ) → is_letter b ≡ true → is_printable b ≡ true
letter_prints b e = elim (or_cases (is_between 65 90 b) (is_between 97 122 b) e) [
  | inl u ↦ within 65 90 b (omega arith) (omega arith) u
  | inr v ↦ within 97 122 b (omega arith) (omega arith) v
]

byte_prints : (b : ℕ) → is_name_byte b ≡ true → is_printable b ≡ true
byte_prints b e = elim (or_cases (is_letter b || is_digit b) (b == 95) e) [
  | inl u ↦ elim (or_cases (is_letter b) (is_digit b) u) [ inl v ↦ letter_prints b v | inr v ↦ within 48 57 b (omega arith) (omega arith) v ]
  | inr u ↦ ap is_printable (eqb-true b 95 u)
]

all_print : (bs : List ℕ) → list_all is_name_byte bs ≡ true → list_all is_printable bs ≡ true
all_print [] e = refl
all_print (b ∷ bs) e = let p = and_parts (is_name_byte b) (list_all is_name_byte bs) e in and_from _ _ (byte_prints b p.0) (all_print bs p.1)

pub name_prints : (n : List ℕ) → is_name n ≡ true → list_all is_printable n ≡ true
name_prints [] e = absurd (false≢true e)
name_prints (b ∷ bs) e =
    let p = and_parts (is_letter b && leb (length bs) 15) (list_all is_name_byte bs) e in
    let q = and_parts (is_letter b) (leb (length bs) 15) p.0 in
    and_from _ _ (letter_prints b q.0) (all_print bs p.1)

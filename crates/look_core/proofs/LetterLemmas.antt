-- Facts on letters: a letter is written column by column, and a row of a text letter by letter.
use Rattle.std.proofs.Common.{◌≡◌, ℕ, min, ◌+◌, ◌-◌, ◌*◌, ◌/◌, ◌%◌, ◌^◌, ◌<◌, ◌≤◌, nat_le, nat_lt, nat_eq, Bool, true, false, ◌&&◌, ◌⊎◌, inl, inr, cond, List, length, get_or, refl, sym, ap, ◌∙◌, arith}
use Rattle.std.proofs.lemmas.Bool.{cases_order, cases_lt}
use Rattle.std.proofs.lemmas.Bool.Decides.{nat_tests}
use Rattle.std.proofs.lemmas.List.{get_or_past}
use Rattle.std.proofs.Math.Nat.{zero-div}
use Rattle.look_core.specs.Font.{glyph, columns_of, has_pixel}
use Rattle.look_core.specs.Ink.{is_ink_in_row, is_ink}
use Rattle.look_core.proofs.FontLemmas.{five}

-- a pixel that is read in the columns of a glyph
pub glyph-by_columns : (byte c row : ℕ) (columns : List ℕ) (pixel : Bool) → columns ≡ columns_of byte → pixel ≡ has_pixel (get_or columns c 0) row → glyph byte c row ≡ pixel
unfolding glyph
glyph-by_columns byte c row columns pixel same read = sym (read ∙ ap (λ xs. has_pixel (get_or xs c 0) row) same)

-- past its columns a glyph has no pixel
pub glyph-past : (byte c row : ℕ) → 5 ≤ c → glyph byte c row ≡ false
unfolding glyph
glyph-past byte c row past = rw (get_or_past (columns_of byte) c 0 (omega (arith, five byte))) (rw (zero-div (2 ^ row)) refl)

-- a column more of a letter, whose pixel is ink
pub lit_column : (g : ℕ → Bool) (x c u colour old mid new : ℕ) → g c ≡ true → mid ≡ cond (nat_le x u && (nat_lt u (x + c) && g (u - x))) colour old → new ≡ cond (nat_eq u (x + c)) colour mid → new ≡ cond (nat_le x u && (nat_lt u (x + (c + 1)) && g (u - x))) colour old
lit_column g x c u colour old mid new lit before after =
    elim (cases_order u (x + c)) [
      | inl same ↦ let at : u - x ≡ c = omega arith in let pixel : g (u - x) ≡ true = ap g at ∙ lit in grind (arith, nat_tests)
      | inr other ↦ elim other [ inl low ↦ grind (arith, nat_tests) | inr high ↦ grind (arith, nat_tests) ]
    ]

-- a column more of a letter, whose pixel is none
pub dark_column : (g : ℕ → Bool) (x c u colour old mid : ℕ) → g c ≡ false → mid ≡ cond (nat_le x u && (nat_lt u (x + c) && g (u - x))) colour old → mid ≡ cond (nat_le x u && (nat_lt u (x + (c + 1)) && g (u - x))) colour old
dark_column g x c u colour old mid dark before =
    elim (cases_order u (x + c)) [
      | inl same ↦ let at : u - x ≡ c = omega arith in let pixel : g (u - x) ≡ false = ap g at ∙ dark in grind (arith, nat_tests)
      | inr other ↦ elim other [ inl low ↦ grind (arith, nat_tests) | inr high ↦ grind (arith, nat_tests) ]
    ]

-- all columns of a letter
pub all_columns : (byte row x u : ℕ) → (nat_le x u && (nat_lt u (x + 5) && glyph byte (u - x) row)) ≡ (nat_le x u && glyph byte (u - x) row)
all_columns byte row x u =
    elim (cases_lt u (x + 5)) [
      | inl low ↦ grind (arith, nat_tests)
      | inr high ↦ let none = glyph-past byte (u - x) row (omega arith) in grind (arith, nat_tests)
    ]

-- in the cell of letter k, the row of the text is that of the letter
ink_in_cell : (text : List ℕ) (x row u k : ℕ) → k < length text → x + 6 * k ≤ u → u < x + 6 * (k + 1) → is_ink_in_row text x row u ≡ glyph (get_or text k 0) (u - (x + 6 * k)) row
unfolding is_ink_in_row
ink_in_cell text x row u k some low high =
    let letter : (u - x) / 6 ≡ k = omega arith in
    let column : (u - x) % 6 ≡ u - (x + 6 * k) = omega arith in
    rw (letter, column) (grind (arith, nat_tests))

-- a letter more of a row of a text
pub one_letter : (text : List ℕ) (x row u k colour old mid new : ℕ) → k < length text
    → mid ≡ cond (nat_lt u (x + 6 * k) && is_ink_in_row text x row u) colour old
    → new ≡ cond (nat_le (x + 6 * k) u && glyph (get_or text k 0) (u - (x + 6 * k)) row) colour mid
    → new ≡ cond (nat_lt u (x + 6 * (k + 1)) && is_ink_in_row text x row u) colour old
one_letter text x row u k colour old mid new some before after =
    elim (cases_lt u (x + 6 * k)) [
      | inl low ↦ grind (arith, nat_tests)
      | inr from ↦ elim (cases_lt u (x + 6 * (k + 1))) [
        | inl inside ↦ let cell = ink_in_cell text x row u k some from inside in grind (arith, nat_tests)
        | inr past ↦ let none = glyph-past (get_or text k 0) (u - (x + 6 * k)) row (omega arith) in grind (arith, nat_tests)
      ]
    ]

-- before the first letter that meets the span no pixel of it is ink
pub no_letter : (text : List ℕ) (x row u from k : ℕ) → from ≤ u → k ≤ (from - x) / 6 → (nat_lt u (x + 6 * k) && is_ink_in_row text x row u) ≡ false
unfolding is_ink_in_row
no_letter text x row u from k after first = grind (arith, nat_tests)

-- behind the last letter that meets the span no pixel of it is ink
pub all_letters : (text : List ℕ) (x row u to k : ℕ) → min (length text) (to / 6 + 1) ≤ k → u < to → (nat_lt u (x + 6 * k) && is_ink_in_row text x row u) ≡ is_ink_in_row text x row u
unfolding is_ink_in_row
all_letters text x row u to k last within =
    elim (cases_lt k (length text)) [
      | inl some ↦ let before : u < x + 6 * k = omega arith in grind (arith, nat_tests)
      | inr all ↦ grind (arith, nat_tests)
    ]

-- a row of a text is in the rows of the text
pub ink_row : (text : List ℕ) (x y u v : ℕ) → y ≤ v → v < y + 8 → is_ink text x y u v ≡ is_ink_in_row text x (v - y) u
unfolding is_ink
ink_row text x y u v low high = grind (arith, nat_tests)

pub no_ink_row : (text : List ℕ) (x y u v : ℕ) → (v < y) ⊎ (y + 8 ≤ v) → is_ink text x y u v ≡ false
unfolding is_ink
no_ink_row text x y u v (inl before) = grind (arith, nat_tests)
no_ink_row text x y u v (inr behind) = grind (arith, nat_tests)

-- How a line is parted: at what it begins with, or at its first space.
use Rattle.std.proofs.Common.{◌≡◌, ℕ, suc, ◌+◌, ◌<◌, Bool, true, false, cond, List, [], ◌∷◌, ◌++◌, length, take, drop, get_or, Option, Some, None, refl, sym, ap, subst, ◌∙◌, arith, length-append, take-append-drop}
use Rattle.std.specs.Prelude.{◌==◌, nat_lt, option_map}
use Rattle.std.specs.Str.{bytes_eq}
use Rattle.std.specs.List.{list_all, position_or_len}
use Rattle.std.proofs.Math.Seq.{take-append_seam}
use Rattle.std.proofs.lemmas.Bool.{and_parts}
use Rattle.std.proofs.lemmas.List.Sums.{split_at_first, passes_at_first}
use Rattle.std.proofs.lemmas.Bool.Decides.{nat_tests}
use Rattle.std.proofs.lemmas.Slice.Eq.{bytes_eq-Decides}
use Rattle.kind_core.specs.Bytes.{is_digit}
use Rattle.script_lines.specs.Reading.{after, parted}
use Rattle.script_lines.proofs.Numerals.{allowed_back}

-- equal bytes
pub same_bytes : (a b : List ℕ) → bytes_eq a b ≡ true → a ≡ b
same_bytes a b e = (bytes_eq-Decides a b).0 e

pub after-back : (start line rest : List ℕ) → after start line ≡ Some rest → line ≡ start ++ rest
unfolding after
after-back start line rest e =
    let found : (bytes_eq (take (length start) line) start ≡ true) × (drop (length start) line ≡ rest) = allowed_back (bytes_eq (take (length start) line) start) (drop (length start) line) rest e in
    sym (take-append-drop (length start) line) ∙ ap (λ xs. xs ++ drop (length start) line) (same_bytes _ _ found.0) ∙ ap (λ xs. start ++ xs) found.1

-- ---- the first space

abbrev is_space : ℕ → Bool
is_space byte = byte == 32

pub same_as : (a b : ℕ) → (a == b) ≡ true → a ≡ b
same_as a b e = grind (arith, nat_tests)

below : (a b : ℕ) → nat_lt a b ≡ true → a < b
below a b e = grind (arith, nat_tests)

parts_at : (line : List ℕ) → position_or_len is_space line < length line → line ≡ take (position_or_len is_space line) line ++ 32 ∷ drop (position_or_len is_space line + 1) line
parts_at line h =
    let at : ℕ = position_or_len is_space line in
    split_at_first is_space line 0 h ∙ ap (λ (k : ℕ). take at line ++ k ∷ drop (at + 1) line) (same_as (get_or line at 0) 32 (passes_at_first is_space line 0 h))

pub parted-back : (line : List ℕ) (parts : List ℕ × List ℕ) → parted line ≡ Some parts → line ≡ parts.0 ++ 32 ∷ parts.1
unfolding parted
parted-back line parts = by (nat_lt (position_or_len is_space line) (length line)) refl
  where
    by : (found : Bool) → found ≡ nat_lt (position_or_len is_space line) (length line) → option_map (λ at. (take at line, drop (at + 1) line)) (cond found (Some (position_or_len is_space line)) None) ≡ Some parts → line ≡ parts.0 ++ 32 ∷ parts.1
    by true e q =
        let same : (take (position_or_len is_space line) line, drop (position_or_len is_space line + 1) line) ≡ parts = cc in
        let P : List ℕ × List ℕ → Type 0 = λ k. line ≡ k.0 ++ 32 ∷ k.1 in
        subst P same (parts_at line (below _ _ (sym e)))
    by false e q = absurd (cc)

no_space : (d : ℕ) → is_digit d ≡ true → (d == 32) ≡ false
no_space d e = grind (arith, nat_tests)

space_behind : (digits rest : List ℕ) → list_all is_digit digits ≡ true → position_or_len is_space (digits ++ 32 ∷ rest) ≡ length digits
space_behind [] rest all = refl
space_behind (d ∷ ds) rest all =
    let parts = and_parts (is_digit d) (list_all is_digit ds) all in
    rw (no_space d parts.0, space_behind ds rest parts.1) (let one : 1 + length ds ≡ length (d ∷ ds) = omega arith in one)

drop-seam : (front rest : List ℕ) (x : ℕ) → drop (length front + 1) (front ++ x ∷ rest) ≡ rest
drop-seam [] rest x = refl
drop-seam (y ∷ front) rest x = let one : length (y ∷ front) + 1 ≡ suc (length front + 1) = omega arith in rw one (drop-seam front rest x)

-- digits end at a space
pub parted-on : (digits rest : List ℕ) → list_all is_digit digits ≡ true → parted (digits ++ 32 ∷ rest) ≡ Some (digits, rest)
unfolding parted
parted-on digits rest all =
    let inside : nat_lt (length digits) (length (digits ++ 32 ∷ rest)) ≡ true = rw (length-append digits (32 ∷ rest)) (grind (arith, nat_tests)) in
    let pair : List ℕ → List ℕ → Option (List ℕ × List ℕ) = λ a b. Some (a, b) in
    rw (space_behind digits rest all, inside) (ap (λ a. pair a (drop (length digits + 1) (digits ++ 32 ∷ rest))) (take-append_seam digits (32 ∷ rest)) ∙ ap (pair digits) (drop-seam digits rest 32))

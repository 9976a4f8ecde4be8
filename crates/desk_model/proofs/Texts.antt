-- A text stays a text when a byte that prints is put in, or a byte is taken out.
use Rattle.std.proofs.Common.{ℕ, ◌≡◌, ◌≤◌, ◌<◌, suc, Bool, true, ◌&&◌, nat_le, List, ◌∷◌, ◌++◌, length, take, drop, arith, sym, ap, ◌∙◌}
use Rattle.std.specs.List.{list_all, insert, remove}
use Rattle.std.proofs.lemmas.Grind.{common_steps}
use Rattle.std.proofs.lemmas.List.Folds.{list_all-append}
use Rattle.std.proofs.lemmas.List.Edits.{length-insert}
use Rattle.std.proofs.lemmas.List.{take-append-drop}
use Rattle.std.proofs.lemmas.Bool.{and_parts}
use Rattle.kind_core.specs.Bytes.{is_text, is_printable}

-- what holds of all holds of the front and of the rest
front : (p : ℕ → Bool) (xs : List ℕ) (i : ℕ) → list_all p xs ≡ true → (list_all p (take i xs) ≡ true) × (list_all p (drop i xs) ≡ true)
front p xs i h = and_parts (list_all p (take i xs)) (list_all p (drop i xs)) (sym (list_all-append p (take i xs) (drop i xs)) ∙ ap (list_all p) (take-append-drop i xs) ∙ h)

both : (a b : Bool) → a ≡ true → b ≡ true → (a && b) ≡ true
both a b x y = rw (x, y) refl_true
  where
    refl_true : true ≡ true
    refl_true = λ _. true

joined : (p : ℕ → Bool) (xs ys : List ℕ) → list_all p xs ≡ true → list_all p ys ≡ true → list_all p (xs ++ ys) ≡ true
joined p xs ys x y = list_all-append p xs ys ∙ both (list_all p xs) (list_all p ys) x y

pub is_text-insert : (text : List ℕ) (caret byte : ℕ) → is_printable byte ≡ true → length text < 64 → caret ≤ length text → is_text text ≡ true → is_text (insert text caret byte) ≡ true
is_text-insert text caret byte prints room within is =
    let each = (and_parts (nat_le (length text) 64) (list_all is_printable text) is).1 in
    let parts = front is_printable text caret each in
    let short : length (insert text caret byte) ≤ 64 = omega (arith, length-insert text caret byte within) in
    both (nat_le (length (insert text caret byte)) 64) (list_all is_printable (insert text caret byte)) (grind (arith, common_steps)) (joined is_printable (take caret text) (byte ∷ drop caret text) parts.0 (both (is_printable byte) (list_all is_printable (drop caret text)) prints parts.1))

pub is_text-remove : (text : List ℕ) (i : ℕ) → is_text text ≡ true → is_text (remove text i) ≡ true
is_text-remove text i is =
    let had = and_parts (nat_le (length text) 64) (list_all is_printable text) is in
    let short : length (remove text i) ≤ 64 = grind (arith, common_steps) in
    both (nat_le (length (remove text i)) 64) (list_all is_printable (remove text i)) (grind (arith, common_steps)) (joined is_printable (take i text) (drop (suc i) text) (front is_printable text i had.1).0 (front is_printable text (suc i) had.1).1)

-- One step of the loop over the characters of a text.
use Rattle.std.proofs.Common.{◌≡◌, ℕ, zero, suc, ◌≤◌, Bool, true, false, cond, ◌==◌, List, [], ◌∷◌, ◌++◌, length, drop, Ok, Err, refl, ap, ◌∙◌}
use Rattle.std.specs.List.{list_all}
use Rattle.std.proofs.lemmas.Bool.{and_parts, and_from, le-leb, false≢true}
use Rattle.kind_core.specs.Bytes.{is_printable, is_text}
use Rattle.cmd_text.specs.Reading.{◌>>=◌, begins_with, read}
use Rattle.cmd_text.specs.ReadingOptions.{is_special, escaped_at, escaped_char_at, char_at, chars_at}

-- a quote ends the text
pub chars_end : (k : ℕ) (front xs : List ℕ) → begins_with (λ b. b == 34) xs ≡ true → chars_at k front xs ≡ Ok (front, drop 1 xs)
chars_end k front [] e = absurd (false≢true e)
chars_end zero front (x ∷ xs) e = ap (λ b. cond b (Ok (read front xs)) (Err (length (x ∷ xs)))) e
chars_end (suc k) front (x ∷ xs) e = ap (λ b. cond b (Ok (read front xs)) (cond (x == 92) (escaped_at (chars_at k) front xs) (cond (is_printable x) (chars_at k (front ++ x ∷ []) xs) (Err (length (x ∷ xs)))))) e

-- no character fits any more
pub chars_full : (front xs : List ℕ) → begins_with (λ b. b == 34) xs ≡ false → chars_at 0 front xs ≡ Err (length xs)
chars_full front [] e = refl
chars_full front (x ∷ xs) e = ap (λ b. cond b (Ok (read front xs)) (Err (length (x ∷ xs)))) e

escaped_is : (k : ℕ) (front xs : List ℕ) → escaped_at (chars_at k) front xs ≡ (escaped_char_at xs >>= λ c. chars_at k (front ++ c.0 ∷ []) c.1)
escaped_is k front [] = refl
escaped_is k front (y ∷ ys) = by (is_special y)
  where
    by : (b : Bool) → cond b (chars_at k (front ++ y ∷ []) ys) (Err (length (y ∷ ys))) ≡ (cond b (Ok (read y ys)) (Err (length (y ∷ ys))) >>= λ c. chars_at k (front ++ c.0 ∷ []) c.1)
    by true = refl
    by false = refl

-- another character, and the others
pub chars_next : (k : ℕ) (front xs : List ℕ) → begins_with (λ b. b == 34) xs ≡ false → chars_at (suc k) front xs ≡ (char_at xs >>= λ c. chars_at k (front ++ c.0 ∷ []) c.1)
chars_next k front [] e = refl
chars_next k front (x ∷ xs) e =
    ap (λ b. cond b (Ok (read front xs)) (cond (x == 92) (escaped_at (chars_at k) front xs) (cond (is_printable x) (chars_at k (front ++ x ∷ []) xs) (Err (length (x ∷ xs)))))) e
    ∙ by_escape (x == 92)
  where
    by_plain : (b : Bool) → cond b (chars_at k (front ++ x ∷ []) xs) (Err (length (x ∷ xs))) ≡ (cond b (Ok (read x xs)) (Err (length (x ∷ xs))) >>= λ c. chars_at k (front ++ c.0 ∷ []) c.1)
    by_plain true = refl
    by_plain false = refl

    by_escape : (b : Bool) → cond b (escaped_at (chars_at k) front xs) (cond (is_printable x) (chars_at k (front ++ x ∷ []) xs) (Err (length (x ∷ xs)))) ≡ (cond b (escaped_char_at xs) (cond (is_printable x) (Ok (read x xs)) (Err (length (x ∷ xs)))) >>= λ c. chars_at k (front ++ c.0 ∷ []) c.1)
    by_escape true = escaped_is k front xs
    by_escape false = by_plain (is_printable x)

-- the same where k is known by arithmetic, and the character was read
pub chars_step : (k j : ℕ) (front xs rest : List ℕ) (c : ℕ) → k ≡ suc j → begins_with (λ b. b == 34) xs ≡ false → char_at xs ≡ Ok (c, rest) → chars_at k front xs ≡ chars_at j (front ++ c ∷ []) rest
chars_step k j front xs rest c e q r = ap (λ n. chars_at n front xs) e ∙ chars_next j front xs q ∙ ap (λ z. z >>= λ c. chars_at j (front ++ c.0 ∷ []) c.1) r

pub chars_fail : (k j : ℕ) (front xs : List ℕ) (left : ℕ) → k ≡ suc j → begins_with (λ b. b == 34) xs ≡ false → char_at xs ≡ Err left → chars_at k front xs ≡ Err left
chars_fail k j front xs left e q r = ap (λ n. chars_at n front xs) e ∙ chars_next j front xs q ∙ ap (λ z. z >>= λ c. chars_at j (front ++ c.0 ∷ []) c.1) r

pub all_push : (test : ℕ → Bool) (xs : List ℕ) (x : ℕ) → list_all test xs ≡ true → test x ≡ true → list_all test (xs ++ x ∷ []) ≡ true
all_push test [] x p q = and_from _ _ q refl
all_push test (y ∷ xs) x p q = let h = and_parts (test y) (list_all test xs) p in and_from _ _ h.0 (all_push test xs x h.1 q)

pub text_made : (xs : List ℕ) → length xs ≤ 64 → list_all is_printable xs ≡ true → is_text xs ≡ true
text_made xs l p = and_from _ _ (le-leb (length xs) 64 l) p

-- Inner words of the proofs: how the private functions read the small parts of a line, from left to right: spaces,
-- names and numbers. What is read is Ok with the bytes after it, or Err with how many bytes were left where reading
-- stopped. That this reading meets the grammar is proved.
use Rattle.std.specs.Prelude.{◌≡◌, ℕ, zero, suc, ℤ, pos, neg_ℤ, Bool, false, ◌==◌, if◌then◌else◌, List, [], ◌∷◌, length, take, drop, Result, Ok, Err}
use Rattle.kind_core.specs.Bytes.{is_letter, is_name_byte, is_digit}
use Rattle.cmd_text.specs.declared.reading.Class.{Class}
use Rattle.cmd_text.specs.declared.reading.Class.TheVariants.{NameByte, Digit}
use Rattle.cmd_words.specs.Productions.{is_space, number_of}

infixl 10 ◌>>=◌
abbrev pub ◌>>=◌ : {A B : Type 0} → Result A ℕ → (A → Result B ℕ) → Result B ℕ
(Ok x) >>= f = f x
(Err left) >>= f = Err left

-- What a function returned, seen by view, is what reading gives.
abbrev pub Gives : {X Y : Type 0} → (X → Y) → Result X ℕ → Result Y ℕ → Type 0
Gives view (Ok x) reading = reading ≡ Ok (view x)
Gives view (Err left) reading = reading ≡ Err left

-- the bytes of a word, one after another
abbrev pub expect_at : List ℕ → List ℕ → Result (List ℕ) ℕ
expect_at [] xs = Ok xs
expect_at (w ∷ ws) [] = Err 0
expect_at (w ∷ ws) (x ∷ xs) = if x == w then expect_at ws xs else Err (length (x ∷ xs))

-- what is after the spaces
abbrev pub skip_at : List ℕ → List ℕ
skip_at [] = []
skip_at (x ∷ xs) = if is_space x then skip_at xs else x ∷ xs

-- at least one space
abbrev pub skip_some_at : List ℕ → Result (List ℕ) ℕ
skip_some_at xs = expect_at (32 ∷ []) xs >>= λ rest. Ok (skip_at rest)

-- how many bytes at the front pass, up to a limit
abbrev pub run_len : (ℕ → Bool) → ℕ → List ℕ → ℕ
run_len test zero xs = 0
run_len test (suc k) [] = 0
run_len test (suc k) (x ∷ xs) = if test x then suc (run_len test k xs) else 0

-- the first byte passes
abbrev pub begins_with : (ℕ → Bool) → List ℕ → Bool
begins_with test [] = false
begins_with test (x ∷ xs) = test x

-- what was read, and what is left
abbrev pub read : {A : Type 0} → A → List ℕ → A × List ℕ
read a xs = (a, xs)

-- the byte x and the run after it, and what is left
abbrev pub cut_run : {A : Type 0} → (ℕ → Bool) → ℕ → (List ℕ → A) → ℕ → List ℕ → A × List ℕ
cut_run test k v x xs = (v (x ∷ take (run_len test k xs) xs), drop (run_len test k xs) xs)

-- a byte that may be first, and then a run of at most k others; v gives what they stand for
abbrev pub first_and_run : {A : Type 0} → (ℕ → Bool) → (ℕ → Bool) → ℕ → (List ℕ → A) → List ℕ → Result (A × List ℕ) ℕ
first_and_run first test k v [] = Err 0
first_and_run first test k v (x ∷ xs) = if first x then Ok (cut_run test k v x xs) else Err (length (x ∷ xs))

unfoldable pub name_at : List ℕ → Result (List ℕ × List ℕ) ℕ
name_at xs = first_and_run is_letter is_name_byte 15 (λ u. u) xs

unfoldable pub count_at : List ℕ → Result (ℕ × List ℕ) ℕ
count_at xs = first_and_run is_digit is_digit 6 number_of xs

-- the same, standing for something else
abbrev pub map_at : {A B : Type 0} → (A → B) → Result (A × List ℕ) ℕ → Result (B × List ℕ) ℕ
map_at g (Ok x) = Ok (g x.0, x.1)
map_at g (Err left) = Err left

abbrev pub minus : ℕ → ℤ
minus n = neg_ℤ (pos n)

unfoldable pub number_at : List ℕ → Result (ℤ × List ℕ) ℕ
number_at xs =
    if begins_with (λ b. b == 45) xs
    then map_at minus (expect_at (45 ∷ []) xs >>= count_at)
    else map_at pos (count_at xs)

-- the test of a class of bytes
abbrev pub class_test : Class → ℕ → Bool
class_test NameByte = is_name_byte
class_test Digit = is_digit

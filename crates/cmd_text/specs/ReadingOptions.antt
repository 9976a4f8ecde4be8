-- Inner words of the proofs: how texts, values and lists of options are read.
use Rattle.std.specs.Prelude.{ℕ, zero, suc, ℤ, Bool, ◌&&◌, ◌||◌, ◌==◌, if◌then◌else◌, List, [], ◌∷◌, ◌++◌, length, codes, Result, Ok, Err}
use Rattle.kind_core.specs.Bytes.{is_printable}
use Rattle.kind_core.specs.declared.kinds.Attr.{Attr}
use Rattle.kind_core.specs.declared.values.Value as value_type
use Rattle.kind_core.specs.declared.values.Value.TheVariants.{Number, Words}
use Rattle.cmd_words.specs.declared.commands.PlaceOption.{PlaceOption}
use Rattle.cmd_words.specs.declared.commands.ConfigOption.{ConfigOption}
use Rattle.cmd_words.specs.Productions.{is_space}
use Rattle.cmd_text.specs.Reading.{◌>>=◌, expect_at, skip_at, skip_some_at, begins_with, read, map_at, number_at}
use Rattle.cmd_text.specs.ReadingWords.{attr_at, place_option_at, config_option_at}

-- a quote or a `\`
abbrev pub is_special : ℕ → Bool
is_special b = (b == 34) || (b == 92)

-- after a `\`: the quote or `\` that it stands before
abbrev pub escaped_char_at : List ℕ → Result (ℕ × List ℕ) ℕ
escaped_char_at [] = Err 0
escaped_char_at (y ∷ ys) = if is_special y then Ok (read y ys) else Err (length (y ∷ ys))

-- one character that is not a quote
abbrev pub char_at : List ℕ → Result (ℕ × List ℕ) ℕ
char_at [] = Err 0
char_at (x ∷ xs) = if x == 92 then escaped_char_at xs else (if is_printable x then Ok (read x xs) else Err (length (x ∷ xs)))

-- after a `\`: a quote or a `\`
abbrev pub escaped_at : (List ℕ → List ℕ → Result (List ℕ × List ℕ) ℕ) → List ℕ → List ℕ → Result (List ℕ × List ℕ) ℕ
escaped_at more front [] = Err 0
escaped_at more front (y ∷ ys) = if is_special y then more (front ++ y ∷ []) ys else Err (length (y ∷ ys))

-- up to k more characters, and the quote; front are those before
abbrev pub chars_at : ℕ → List ℕ → List ℕ → Result (List ℕ × List ℕ) ℕ
chars_at zero front [] = Err 0
chars_at zero front (x ∷ xs) = if x == 34 then Ok (read front xs) else Err (length (x ∷ xs))
chars_at (suc k) front [] = Err 0
chars_at (suc k) front (x ∷ xs) = if x == 34 then Ok (read front xs) else (if x == 92 then escaped_at (chars_at k) front xs else (if is_printable x then chars_at k (front ++ x ∷ []) xs else Err (length (x ∷ xs))))

unfoldable pub text_at : List ℕ → Result (List ℕ × List ℕ) ℕ
text_at xs = expect_at (34 ∷ []) xs >>= λ rest. chars_at 64 [] rest

unfoldable pub value_at : List ℕ → Result (value_type.Value × List ℕ) ℕ
value_at xs =
    if begins_with (λ b. b == 34) xs
    then map_at Words (text_at xs)
    else map_at Number (number_at xs)

-- `-`, a word, spaces and a value
abbrev pub option_at : {A V : Type 0} → (List ℕ → Result (A × List ℕ) ℕ) → (List ℕ → Result (V × List ℕ) ℕ) → List ℕ → Result ((A × V) × List ℕ) ℕ
option_at which what xs =
    expect_at (codes "-") xs >>= λ rest. which rest >>= λ a. skip_some_at a.1 >>= λ rest. map_at (λ v. (a.0, v)) (what rest)

unfoldable pub sopt_at : List ℕ → Result ((Attr × value_type.Value) × List ℕ) ℕ
sopt_at xs = option_at attr_at value_at xs

unfoldable pub popt_at : List ℕ → Result ((PlaceOption × ℤ) × List ℕ) ℕ
popt_at xs = option_at place_option_at number_at xs

unfoldable pub copt_at : List ℕ → Result ((ConfigOption × ℤ) × List ℕ) ℕ
copt_at xs = option_at config_option_at number_at xs

-- spaces, and a `-` after them: another option comes
abbrev pub option_comes : List ℕ → Bool
option_comes xs = begins_with is_space xs && begins_with (λ b. b == 45) (skip_at xs)

-- one option, put at the end of a list
abbrev pub pushed_at : {A : Type 0} → (List ℕ → Result (A × List ℕ) ℕ) → List A → List ℕ → Result (List A × List ℕ) ℕ
pushed_at one list xs = one xs >>= λ o. Ok (read (list ++ o.0 ∷ []) o.1)

-- up to k more options, and the spaces after the last; front are the options before
abbrev pub more_at : {A : Type 0} → (List ℕ → Result (A × List ℕ) ℕ) → ℕ → List A → List ℕ → Result (List A × List ℕ) ℕ
more_at one zero front xs = Ok (front, skip_at xs)
more_at one (suc k) front xs =
    if option_comes xs
    then (one (skip_at xs) >>= λ o. more_at one k (front ++ o.0 ∷ []) o.1)
    else Ok (front, skip_at xs)

-- 1 to 8 options, and the spaces after the last
unfoldable pub options_at : {A : Type 0} → (List ℕ → Result (A × List ℕ) ℕ) → List ℕ → Result (List A × List ℕ) ℕ
options_at one xs = one xs >>= λ o. more_at one 7 (o.0 ∷ []) o.1

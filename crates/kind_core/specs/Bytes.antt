-- Which bytes make a name, and which a text. Both are tests of a list of bytes.
use Rattle.std.specs.Prelude.{ℕ, Bool, false, ◌&&◌, ◌||◌, ◌==◌, nat_le, List, [], ◌∷◌, length}
use Rattle.std.specs.List.{list_all}

-- the byte is one from low to high
abbrev pub is_between : ℕ → ℕ → ℕ → Bool
is_between low high b = nat_le low b && nat_le b high

-- `A` to `Z` and `a` to `z`
abbrev pub is_letter : ℕ → Bool
is_letter b = is_between 65 90 b || is_between 97 122 b

-- `0` to `9`
abbrev pub is_digit : ℕ → Bool
is_digit b = is_between 48 57 b

-- a letter, a digit or `_`
abbrev pub is_name_byte : ℕ → Bool
is_name_byte b = is_letter b || is_digit b || b == 95

-- A name is a letter, and then up to 15 letters, digits or `_`.
abbrev pub is_name : List ℕ → Bool
is_name [] = false
is_name (first ∷ rest) = is_letter first && nat_le (length rest) 15 && list_all is_name_byte rest

-- a byte that prints: the space to `~`
abbrev pub is_printable : ℕ → Bool
is_printable b = is_between 32 126 b

-- A text is 0 to 64 bytes that print.
abbrev pub is_text : List ℕ → Bool
is_text bytes = nat_le (length bytes) 64 && list_all is_printable bytes

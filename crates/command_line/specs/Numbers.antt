-- The numbers in words.
use Rattle.std.specs.Prelude.{◌&&◌, ℕ, Bool, Option, Some, None, nat_le, if◌then◌else◌}
use Rattle.clap.specs.Words.{Text}
use Rattle.cmd_words.specs.Productions.{are_digits, number_of}

-- the text is 1 to 7 digits, whose number is from least to greatest
abbrev pub is_number : ℕ → ℕ → Text → Bool
is_number least greatest text = are_digits text && (nat_le least (number_of text) && nat_le (number_of text) greatest)

-- that number, where the text is so
abbrev pub number_read : ℕ → ℕ → Text → Option ℕ
number_read least greatest text = if is_number least greatest text then Some (number_of text) else None

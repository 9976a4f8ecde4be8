-- The font: which pixels of a cell of 6 by 8 a byte's glyph has.
use Rattle.std.specs.Prelude.{ℕ, ◌-◌, Bool, ◌==◌, List, slice_index, slice_index_or}
use Rattle.std.specs.Int.{bit_at}
use Rattle.look_core.specs.declared.font.TheConstants.{FONT, BLANK}

-- The five columns of a byte's glyph, from the left, a number each. The table begins with the space, byte 32,
-- and ends with byte 126; a byte that doesn't print has a blank glyph.
unfoldable pub columns_of : ℕ → List ℕ
columns_of byte = slice_index_or FONT (byte - 32) BLANK

-- Whether a column has the pixel of a row, 0 to 7 from the top: whether it has the bit of value 2 ^ row.
abbrev pub has_pixel : ℕ → ℕ → Bool
has_pixel column row = bit_at column row == 1

-- Whether the byte's glyph has the pixel of a column and a row of its cell. The sixth column is empty.
unfoldable pub glyph : ℕ → ℕ → ℕ → Bool
glyph byte column row = has_pixel (slice_index (columns_of byte) column) row

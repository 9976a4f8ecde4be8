-- Texts: which pixels are ink. A letter has a cell of 6 by 8 pixels, and the cells of a text stand side by side.
use Rattle.std.specs.Prelude.{ℕ, ◌+◌, ◌-◌, ◌/◌, ◌%◌, nat_le, nat_lt, Bool, ◌&&◌, List, length, slice_index}
use Rattle.look_core.specs.Font.{glyph}

-- Whether the pixel in column u is ink, in one row, 0 to 7, of a text whose first cell begins at column x: it is
-- in the cell of a letter of the text, and that letter's glyph has it.
unfoldable pub is_ink_in_row : List ℕ → ℕ → ℕ → ℕ → Bool
is_ink_in_row text x row u =
    let letter = (u - x) / 6 in
    nat_le x u && (nat_lt letter (length text) && glyph (slice_index text letter) ((u - x) % 6) row)

-- Whether the pixel (u, v) is ink of a text whose first cell has its upper left corner at (x, y).
unfoldable pub is_ink : List ℕ → ℕ → ℕ → ℕ → ℕ → Bool
is_ink text x y u v = nat_le y v && (nat_lt v (y + 8) && is_ink_in_row text x (v - y) u)

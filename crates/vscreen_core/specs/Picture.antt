-- A picture is a list of bytes, a byte a pixel, row by row from the top: the pixel (u, v) has the number
-- v * width + u, and is the byte of that number.
use Rattle.std.specs.Prelude.{ℕ, ◌+◌, ◌*◌, List, ◌++◌, take, drop, slice_range, get_or}

-- the number of the pixel (u, v), from 0
abbrev pub pixel_number : ℕ → ℕ → ℕ → ℕ
pixel_number width u v = v * width + u

-- the byte of the pixel of this number
abbrev pub pixel_of : List ℕ → ℕ → ℕ
pixel_of picture number = get_or picture number 0

-- the bytes of row v
abbrev pub row_of : ℕ → List ℕ → ℕ → List ℕ
row_of width picture v = slice_range picture (v * width) ((v + 1) * width)

-- the old picture with the pixels of the numbers `from` up to `to`, without `to`, taken from the new one
abbrev pub with_pixels : List ℕ → List ℕ → ℕ → ℕ → List ℕ
with_pixels old new from to = take from old ++ (slice_range new from to ++ drop to old)

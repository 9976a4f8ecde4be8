-- A screen is a list of width * height bytes; the pixel (x, y) is byte y * width + x.
-- Beside it stand two numbers of the time since the count was last started: that of the bytes written, and that of
-- the spans, each a part of a row with at least one pixel that was put or lent for writing at once. The same two
-- numbers of all time, modulo 2^64, stand beside them: no call takes these back.
use Rattle.std.specs.Prelude.{◌≡◌, ℕ, ◌+◌, ◌*◌, ◌%◌, ◌^◌, ◌<◌, ◌≤◌, Bool, ◌&&◌, nat_le, nat_lt, List, ◌++◌, length, take, drop, slice_index, min}

pub record Screen : Type 0 where
  pub width : ℕ
  pub height : ℕ
  pub bytes : List ℕ
  pub writes : ℕ
  pub spans : ℕ
  pub all_writes : ℕ
  pub all_spans : ℕ

-- what is true of every canvas: its sides are within the limits, it has a byte for each pixel, and the counts fit
pub record IsScreen (s : Screen) : Type 0 where
  pub least_width : 16 ≤ s.width
  pub greatest_width : s.width ≤ 1024
  pub least_height : 16 ≤ s.height
  pub greatest_height : s.height ≤ 768
  pub area : length s.bytes ≡ s.width * s.height
  pub count_fits : s.writes < 2 ^ 32
  pub spans_within : s.spans ≤ s.writes
  pub all_writes_fit : s.all_writes < 2 ^ 64
  pub all_spans_fit : s.all_spans < 2 ^ 64

-- the number of the desk's colour, which a new screen has everywhere
abbrev pub desk_colour : ℕ
desk_colour = 2

-- the place of the pixel (x, y) in the list of bytes
abbrev pub place : Screen → ℕ → ℕ → ℕ
place s x y = y * s.width + x

-- the byte of the pixel (x, y)
abbrev pub pixel_of : Screen → ℕ → ℕ → ℕ
pixel_of s x y = slice_index s.bytes (place s x y)

-- the bytes with `row` put over those from the place `at` on
abbrev pub with_span : List ℕ → ℕ → List ℕ → List ℕ
with_span bytes at row = take at bytes ++ row ++ drop (at + length row) bytes

-- whether the place k is one of the `count` places from `at` on
abbrev pub in_span : ℕ → ℕ → ℕ → Bool
in_span at count k = nat_le at k && nat_lt k (at + count)

-- how many spans so many pixels at once are: one, or none where there is no pixel
abbrev pub spans_of : ℕ → ℕ
spans_of len = min len 1

-- a number of all time with so many more counted, modulo 2^64
abbrev pub risen : ℕ → ℕ → ℕ
risen all more = (all + more) % 2 ^ 64

-- the screen with so many bytes more counted, which are a span; no pixel changes
abbrev pub counted : Screen → ℕ → Screen
counted s len = record s {
  writes = s.writes + len;
  spans = s.spans + spans_of len;
  all_writes = risen s.all_writes len;
  all_spans = risen s.all_spans (spans_of len);
}

-- Inner words of the proofs: spans, pixels side by side in one row of a widget.
use Rattle.std.specs.Prelude.{◌≡◌, ℕ, ◌+◌, ◌<◌, ◌≤◌, Bool, List, length, slice_index, if◌then◌else◌}
use Rattle.look_core.specs.declared.scanline.Scanline.{Scanline}

-- a span of so many pixels lies in a widget, which is at most 4,128 wide and high
pub record IsWithin (line : Scanline) (len : ℕ) : Type 0 where
  pub columns : line.from + len ≤ line.w
  pub wide : line.w ≤ 4128
  pub row : line.y < line.h
  pub high : line.h ≤ 4128

-- each byte is the colour of its pixel
abbrev pub Shows : (ℕ → ℕ → ℕ) → Scanline → List ℕ → Type 0
Shows colour line bytes = (i : ℕ) → i < length bytes → slice_index bytes i ≡ colour (line.from + i) line.y

-- The columns that pass the test have the new colour, and the others keep theirs. The bytes begin at column `from`.
abbrev pub Lays : (ℕ → Bool) → ℕ → ℕ → List ℕ → List ℕ → Type 0
Lays test colour from old new = (i : ℕ) → i < length new → slice_index new i ≡ (if test (from + i) then colour else slice_index old i)

-- An inner word of the proofs: a part of a widget's row, and what a look shows there.
use Rattle.std.specs.Prelude.{◌≡◌, ℕ, ◌+◌, ◌-◌, ◌<◌, ◌≤◌, List, length, slice_index}
use Rattle.look_core.specs.Seen.{Seen}
use Rattle.look_core.specs.Colour.{colour_of}
use Rattle.painter_core.specs.declared.line.Line.{Line}

pub record IsLine (at : Line) (len : ℕ) : Type 0 where
  pub order : at.from ≤ at.to
  pub columns : at.to ≤ at.w
  pub wide : at.w ≤ 4128
  pub row : at.y < at.h
  pub high : at.h ≤ 4128
  pub room : len ≡ at.to - at.from

abbrev pub ShowsLook : Seen → Line → List ℕ → Type 0
ShowsLook look at bytes = (i : ℕ) → i < length bytes → slice_index bytes i ≡ colour_of look at.w at.h (at.from + i) at.y

-- How a short list of bytes lies in a room of fixed size: at its front, with zeros behind it.
use Rattle.std.specs.Prelude.{◌≡◌, ℕ, ◌-◌, ◌≤◌, Bool, true, List, ◌++◌, length, take, replicate}
use Rattle.std.proofs.Common.{sym, ap, ◌∙◌, arith}
use Rattle.std.proofs.lemmas.List.{length-take}

-- the bytes at the front of the room, and zeros up to its end
abbrev pub padded : ℕ → List ℕ → List ℕ
padded room bytes = bytes ++ replicate (room - length bytes) 0

-- The first len of the cells pass the test, and zeros stand behind them.
pub record IsPadded (test : List ℕ → Bool) (room len : ℕ) (cells : List ℕ) : Type 0 where
  pub size : length cells ≡ room
  pub fits : len ≤ room
  pub zeros : cells ≡ take len cells ++ replicate (room - len) 0
  pub passes : test (take len cells) ≡ true

-- The length and the cells are those of the list that they show.
pub restored : {test : List ℕ → Bool} {room len : ℕ} {cells : List ℕ} → IsPadded test room len cells → (length (take len cells) ≡ len) × (padded room (take len cells) ≡ cells)
restored {test} {room} {len} {cells} kept =
    let count : length (take len cells) ≡ len = omega (arith, length-take len cells, kept.size, kept.fits) in
    (count, ap (λ n. take len cells ++ replicate (room - n) 0) count ∙ sym kept.zeros)

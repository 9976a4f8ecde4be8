-- A ledger's lines: each answer is the sum so far with its amount, as one caller alone would get it.
use Rattle.std.specs.Prelude.{ℕ, ◌+◌, Bool, true, ◌&&◌, ◌==◌, List, [], ◌∷◌}
use Rattle.turnstile_tests.specs.declared.line.Line.{Line}

abbrev pub is_legal : ℕ → List Line → Bool
is_legal sum [] = true
is_legal sum (l ∷ ls) = (l.sum == sum + l.amount) && is_legal l.sum ls

abbrev pub sum_after : ℕ → List Line → ℕ
sum_after sum [] = sum
sum_after sum (l ∷ ls) = sum_after l.sum ls

abbrev pub number_on : Line → ℕ
number_on l = l.by

abbrev pub line : ℕ → ℕ → ℕ → Line
line by amount sum = record { by = by; amount = amount; sum = sum }

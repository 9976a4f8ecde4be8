-- What a call leaves: the ledger begins with what the pass saw before, and the call's line is last and its only new one.
use Rattle.std.specs.Prelude.{◌≡◌, ℕ, List, [], ◌∷◌, ◌++◌}
use Rattle.turnstile.specs.Entries.{carrying}
use Rattle.turnstile.specs.declared.pass.Pass.{Pass}
use Rattle.turnstile.specs.Passes.{seen, mine, number_of}
use Rattle.turnstile_tests.specs.declared.line.Line.{Line}
use Rattle.turnstile_tests.specs.declared.ledger.Ledger.{Ledger}
use Rattle.turnstile_tests.specs.Lines.{number_on, line}

abbrev pub lines_of : Ledger → List Line
lines_of l = l.lines.items

-- a call that was answered
pub record Called (before now : Pass Ledger Line) (amount sum : ℕ) : Type 0 where
  pub between : List Line
  pub seen_is : seen now ≡ (seen before ++ between) ++ line (number_of before) amount sum ∷ []
  pub others : carrying number_on (number_of before) between ≡ []
  pub mine_is : mine now ≡ mine before ++ line (number_of before) amount sum ∷ []

-- a call that was refused
pub record Refused (before now : Pass Ledger Line) : Type 0 where
  pub between : List Line
  pub seen_is : seen now ≡ seen before ++ between
  pub others : carrying number_on (number_of before) between ≡ []
  pub mine_is : mine now ≡ mine before

-- A line that is no command, and its place.
use Rattle.std.specs.Prelude.{ℕ, List}
use Rattle.cmd_words.specs.declared.commands.Command.{Command}
use Rattle.cmd_words.specs.Grammar.{command_line, IsPlace}

-- the line stands for no command, and p is how many bytes its longest front has that some line begins with
pub record IsMisread (xs : List ℕ) (p : ℕ) : Type 0 where
  pub none : (c : Command) → ¬ command_line xs c
  pub place : IsPlace xs p

-- The laws of the language.
use Rattle.std.specs.Prelude.{◌≡◌, ◌⊎◌, ℕ, List}
use Rattle.cmd_words.specs.declared.commands.Command.{Command}
use Rattle.cmd_words.specs.Grammar.{command_line, IsPlace}
use Rattle.cmd_print.specs.Printed.{printed}
use Rattle.cmd_text.specs.FrameLine.{IsFrameLine}
use Rattle.cmd_text.specs.Misread.{IsMisread}

-- a line stands for at most one command
abbrev pub OneCommand : Type 0
OneCommand = (xs : List ℕ) (c d : Command) → command_line xs c → command_line xs d → c ≡ d

-- the printed form of a command that has a line is itself a line that stands for it
abbrev pub PrintedIsALine : Type 0
PrintedIsALine = (xs : List ℕ) (c : Command) → command_line xs c → command_line (printed c) c

-- each line, of any length, stands for a command or is misread at a place
abbrev pub EachLineIsTold : Type 0
EachLineIsTold = (xs : List ℕ) → ((c : Command) × command_line xs c) ⊎ ((p : ℕ) × IsMisread xs p)

-- a line has at most one place
abbrev pub OnePlace : Type 0
OnePlace = (xs : List ℕ) (p q : ℕ) → IsPlace xs p → IsPlace xs q → p ≡ q

-- each line is a frame line or isn't one
abbrev pub FrameLinesAreTold : Type 0
FrameLinesAreTold = (xs : List ℕ) → IsFrameLine xs ⊎ (¬ IsFrameLine xs)

-- What `clap`'s matches of the program's command say.
use Rattle.std.specs.Prelude.{ℕ, List, [], ◌∷◌, Option, Some, option_map, option_and_then}
use Rattle.clap.specs.Words.{Row, Text, first_of, subcommand_of}
use Rattle.command_line.specs.Table.{Ranged, Verb, verb_named}
use Rattle.command_line.specs.Program.{program}
use Rattle.command_line.specs.Numbers.{number_read}

-- a command, and the numbers of its options in the table's order
pub record Called : Type 0 where
  pub name : Text
  pub numbers : List ℕ

-- the number of each option, by the value that it has; None where one has no value, or one that is no number in its range
abbrev pub numbers_from : (Text → Option Text) → List Ranged → Option (List ℕ)
numbers_from values [] = Some []
numbers_from values (o ∷ options) = option_and_then (λ text. option_and_then (λ n.
    option_map (λ ns. n ∷ ns) (numbers_from values options)) (number_read o.least o.greatest text)) (values o.name)

abbrev pub called_in : List Verb → Text × List Row → Option Called
called_in verbs met = option_and_then (λ v. option_map (λ ns. record { name = v.name; numbers = ns })
    (numbers_from (λ name. first_of name met.1) v.options)) (verb_named verbs met.0)

-- the command that the matches on these words name, with the numbers that they have
abbrev pub called : List Verb → List Text → Option Called
called verbs words = option_and_then (called_in verbs) (subcommand_of (program verbs) words)

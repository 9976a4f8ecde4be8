use Rattle.std.proofs.Common.{◌≡◌, ◌++◌, drop, length, option_map}
use Rattle.std.specs.Prelude.{map}
use Rattle.clap.specs.Words.{first_value, found_of}
use Rattle.command_line.specs.Matched.{numbers_from}
use Rattle.command_line.specs.Rows.{ranged_of}
use Rattle.command_line.proofs.matched.numbers_of.Given as goal

abbrev pub invariant-loop-option : goal.invariant-loop-option
invariant-loop-option l = (option_map (λ ns. l.numbers.items ++ ns) (numbers_from (first_value (found_of l.matches)) (map ranged_of (drop l.option-index l.options)))
    ≡ numbers_from (first_value (found_of l.matches)) (map ranged_of l.options)) × (length l.numbers.items ≡ l.option-index)

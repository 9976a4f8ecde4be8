-- Inner words of the proofs: what the code has read, as a command with its numbers.
use Rattle.command_line.specs.declared.matched.Matched.{Matched}
use Rattle.command_line.specs.Matched.{Called}

abbrev pub call_of : Matched → Called
call_of m = record { name = m.name.now; numbers = m.numbers.items }

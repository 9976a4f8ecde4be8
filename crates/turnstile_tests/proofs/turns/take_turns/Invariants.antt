use Rattle.turnstile.specs.Passes.{IsPassOf, IsOut}
use Rattle.turnstile_tests.specs.Ledgers.{lines_of}
use Rattle.turnstile_tests.proofs.turns.take_turns.Given as goal

abbrev pub invariant-loop-round : goal.invariant-loop-round
invariant-loop-round g l = record { own : IsPassOf lines_of l.gate l.pass; outside : IsOut l.pass }

use Rattle.std.proofs.Common.{◌+◌, ◌*◌, nat_lt, ◌&&◌}
use Rattle.look_core.specs.Ink.{is_ink_in_row}
use Rattle.look_core.specs.Span.{Lays}
use Rattle.look_core.proofs.lettering.write_letters.Given as goal

abbrev pub invariant-loop-k : goal.invariant-loop-k
invariant-loop-k l = Lays (λ u. nat_lt u (l.x + 6 * l.k) && is_ink_in_row l.text l.x l.row u) l.colour l.from l.initial.out l.out

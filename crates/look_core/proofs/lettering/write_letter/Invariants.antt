use Rattle.std.proofs.Common.{◌+◌, ◌-◌, nat_le, nat_lt, ◌&&◌}
use Rattle.look_core.specs.Font.{glyph}
use Rattle.look_core.specs.Span.{Lays}
use Rattle.look_core.proofs.lettering.write_letter.Given as goal

abbrev pub invariant-loop-c : goal.invariant-loop-c
invariant-loop-c l = Lays (λ u. nat_le l.x u && (nat_lt u (l.x + l.c) && glyph l.byte (u - l.x) l.row)) l.colour l.from l.initial.out l.out

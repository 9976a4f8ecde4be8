use Rattle.std.proofs.Common.{◌≡◌, ◌++◌, length}
use Rattle.std.specs.List.{All}
use Rattle.turnstile.specs.Passes.{IsPassOf, IsOut, parts_of, parts_together}
use Rattle.turnstile.proofs.turnstile.Turnstile.join_all.Given as goal

abbrev pub invariant-loop-other : goal.invariant-loop-other
invariant-loop-other g l = record {
  own : IsPassOf g.V.Kept.entries l.self l.all;
  outside : IsOut l.all;
  owns : All (IsPassOf g.V.Kept.entries l.self) l.passes.items;
  outsides : All IsOut l.passes.items;
  parts : parts_together l.fn.passes.items ≡ parts_of l.all ++ parts_together l.passes.items;
}

abbrev pub decreases-loop-other : goal.decreases-loop-other
decreases-loop-other g l = length l.passes.items

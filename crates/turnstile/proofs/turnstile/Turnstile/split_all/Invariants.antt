use Rattle.std.proofs.Common.{◌≡◌, ◌+◌, map}
use Rattle.std.specs.List.{All, range_with_len}
use Rattle.turnstile.specs.Making.{IsMaker}
use Rattle.turnstile.specs.Passes.{IsNew, number_of, seen}
use Rattle.turnstile.proofs.turnstile.Turnstile.split_all.Given as goal

abbrev pub invariant-loop-next : goal.invariant-loop-next
invariant-loop-next g l = record {
  maker : IsMaker g.V.Kept.entries l.self (seen l.fn.maker) l.maker;
  same : seen l.maker ≡ seen l.fn.maker;
  next : number_of l.maker + 1 ≡ l._next;
  new : All (IsNew g.V.Kept.entries l.self (seen l.fn.maker)) l.passes.items;
  numbers : map number_of l.passes.items ≡ range_with_len 0 (number_of l.maker);
}

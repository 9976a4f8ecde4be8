use Rattle.std.proofs.Common.{length}
use Rattle.redraw_core.specs.Stores.{IsRearranged}
use Rattle.redraw_core.proofs.joining.join_all.Given as goal

abbrev pub invariant-loop : goal.invariant-loop
invariant-loop l = IsRearranged l.initial.store l.store

abbrev pub decreases-loop : goal.decreases-loop
decreases-loop l = length l.store.kept.items

use Rattle.std.proofs.Common.{sym, arith}
use Rattle.redraw_core.proofs.QueueLemmas.{count-in, count-fits, IsDirt-in}
use Rattle.redraw_core.proofs.queue.Queue.count.Goals as goal

pub overflow_add-result : goal.overflow_add-result
overflow_add-result c =
    let store = c.self.inside.store in
    omega (arith, c.count.ensures.count, count-fits store.kept.items store.area store.map c.self.invariant)

pub returns-clause-count : goal.returns-clause-count
returns-clause-count c =
    let store = c.self.inside.store in
    rw (c.count.ensures.count, ← c.self.view_is) (sym (count-in store.kept.items store.area store.map c.self.invariant))

pub returns-clause-valid : goal.returns-clause-valid
returns-clause-valid c =
    let store = c.self.inside.store in
    rw (← c.self.view_is) (IsDirt-in store.kept.items store.map c.self.invariant.valid)

use Rattle.redraw_core.proofs.QueueLemmas.{answer_none, answer_taken, answer_fewer, IsDirt-in}
use Rattle.redraw_core.proofs.queue.Queue.next.Goals as goal

pub returns-clause-none : goal.returns-clause-none
returns-clause-none c =
    let old = c.self.inside.store in
    let new = c.take.new.store in
    rw (← c.self.view_is) (answer_none c.take.result c.args.n old.kept.items old.map new.kept.items new.area new.map c.take.ensures.none c.take.ensures.removed)

pub returns-clause-taken : goal.returns-clause-taken
returns-clause-taken c =
    let old = c.self.inside.store in
    let new = c.take.new.store in
    rw (← c.self.view_is) (answer_taken c.take.result c.args.n old.kept.items old.map new.kept.items new.area new.map c.take.ensures.removed)

pub returns-clause-fewer : goal.returns-clause-fewer
returns-clause-fewer c =
    let old = c.self.inside.store in
    let new = c.take.new.store in
    rw (← c.self.view_is) (answer_fewer c.take.result c.args.n old.kept.items old.map new.kept.items new.area new.map c.take.ensures.removed)

pub returns-clause-valid : goal.returns-clause-valid
returns-clause-valid c =
    let new = c.take.new.store in
    IsDirt-in new.kept.items new.map c.take.ensures.kept.valid

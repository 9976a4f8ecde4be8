use Rattle.std.proofs.Common.{◌≡◌, Some, sym, ◌∙◌}
use Rattle.std.specs.Prelude.{slice_get}
use Rattle.stack_core.proofs.Keys.{holds_key-at, raised_is, IsStack-raised}
use Rattle.stack_core.proofs.order.Stack.raise.Goals as goal

pub invariant_of-self : goal.invariant_of-self
invariant_of-self c =
    let old = c.self.inside.keys.items in
    let at : slice_get old c.in-Some.from ≡ Some c.args.key = rw (← c.as_slice.ensures.value) c.in-Some.ensures in
    let raised = raised_is old c.remove-raised.new.self.items c.in-Some.from c.args.key c.remove-raised.result c.self.invariant.distinct at c.remove-raised.ensures.value c.remove-raised.ensures.items in
    rw (c.insert.ensures.items ∙ raised) (IsStack-raised old c.args.key c.self.invariant (holds_key-at old c.in-Some.from c.args.key at))

pub returns-in-Some-clause-found : goal.returns-in-Some-clause-found
returns-in-Some-clause-found c =
    let old = c.self.inside.keys.items in
    let at : slice_get old c.in-Some.from ≡ Some c.args.key = rw (← c.as_slice.ensures.value) c.in-Some.ensures in
    sym (rw (← c.self.view_is) (holds_key-at old c.in-Some.from c.args.key at))

pub returns-in-Some-clause-raised : goal.returns-in-Some-clause-raised
returns-in-Some-clause-raised c =
    let old = c.self.inside.keys.items in
    let at : slice_get old c.in-Some.from ≡ Some c.args.key = rw (← c.as_slice.ensures.value) c.in-Some.ensures in
    rw (← c.self.view_is) (c.insert.ensures.items ∙ raised_is old c.remove-raised.new.self.items c.in-Some.from c.args.key c.remove-raised.result c.self.invariant.distinct at c.remove-raised.ensures.value c.remove-raised.ensures.items)

pub returns-in-Some-clause-valid : goal.returns-in-Some-clause-valid
returns-in-Some-clause-valid c =
    let old = c.self.inside.keys.items in
    let at : slice_get old c.in-Some.from ≡ Some c.args.key = rw (← c.as_slice.ensures.value) c.in-Some.ensures in
    let raised = raised_is old c.remove-raised.new.self.items c.in-Some.from c.args.key c.remove-raised.result c.self.invariant.distinct at c.remove-raised.ensures.value c.remove-raised.ensures.items in
    rw (c.insert.ensures.items ∙ raised) (IsStack-raised old c.args.key c.self.invariant (holds_key-at old c.in-Some.from c.args.key at))

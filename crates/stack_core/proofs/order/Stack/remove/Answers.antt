use Rattle.std.proofs.Common.{◌≡◌, Some, sym, ap, ◌∙◌}
use Rattle.std.specs.Prelude.{slice_get}
use Rattle.stack_core.specs.Stack.{holds_key}
use Rattle.stack_core.proofs.Keys.{remove-at, holds_key-at, without-absent, IsStack-without}
use Rattle.stack_core.proofs.order.Stack.remove.Goals as goal

pub invariant_of-self : goal.invariant_of-self
invariant_of-self c =
    let old = c.self.inside.keys.items in
    let at : slice_get old c.in-Some.place ≡ Some c.args.key = rw (← c.as_slice.ensures.value) c.in-Some.ensures in
    rw (c.remove.ensures.items, remove-at old c.in-Some.place c.args.key c.self.invariant.distinct at) (IsStack-without old c.args.key c.self.invariant)

pub returns-in-Some-clause-found : goal.returns-in-Some-clause-found
returns-in-Some-clause-found c =
    let old = c.self.inside.keys.items in
    let at : slice_get old c.in-Some.place ≡ Some c.args.key = rw (← c.as_slice.ensures.value) c.in-Some.ensures in
    sym (rw (← c.self.view_is) (holds_key-at old c.in-Some.place c.args.key at))

pub returns-in-Some-clause-others : goal.returns-in-Some-clause-others
returns-in-Some-clause-others c =
    let old = c.self.inside.keys.items in
    let at : slice_get old c.in-Some.place ≡ Some c.args.key = rw (← c.as_slice.ensures.value) c.in-Some.ensures in
    rw (← c.self.view_is) (c.remove.ensures.items ∙ remove-at old c.in-Some.place c.args.key c.self.invariant.distinct at)

pub returns-in-None-clause-others : goal.returns-in-None-clause-others
returns-in-None-clause-others c =
    let old = c.self.inside.keys.items in
    let absent = ap (λ ks. holds_key ks c.args.key) (sym c.as_slice.ensures.value) ∙ c.in-None.ensures in
    rw (← c.self.view_is) (sym (without-absent old c.args.key absent))

pub returns-in-Some-clause-valid : goal.returns-in-Some-clause-valid
returns-in-Some-clause-valid c =
    let old = c.self.inside.keys.items in
    let at : slice_get old c.in-Some.place ≡ Some c.args.key = rw (← c.as_slice.ensures.value) c.in-Some.ensures in
    rw (c.remove.ensures.items, remove-at old c.in-Some.place c.args.key c.self.invariant.distinct at) (IsStack-without old c.args.key c.self.invariant)

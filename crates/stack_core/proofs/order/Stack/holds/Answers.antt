use Rattle.std.proofs.Common.{◌∙◌, ap}
use Rattle.stack_core.specs.Stack.{holds_key}
use Rattle.stack_core.proofs.Keys.{holds_key-found}
use Rattle.stack_core.proofs.order.Stack.holds.Goals as goal

pub returns-clause-found : goal.returns-clause-found
returns-clause-found c =
    c.is_some.ensures ∙ holds_key-found c.as_slice.result.now c.args.key c.place_of.result c.place_of.ensures ∙ ap (λ ks. holds_key ks c.args.key) (c.as_slice.ensures.value ∙ c.self.view_is)

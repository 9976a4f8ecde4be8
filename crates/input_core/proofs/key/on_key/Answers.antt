use Rattle.std.proofs.Common.{sym, ◌∙◌, subst, Option}
use Rattle.std.specs.Prelude.{IfSome}
use Rattle.widget_model.specs.Widgets.{IsLive}
use Rattle.tree_core.specs.declared.id.Id.{Id}
use Rattle.input_core.proofs.Steps.{on_key-focus}
use Rattle.input_core.proofs.key.on_key.Goals as goal

pub returns-in-Some-clause-seen : goal.returns-in-Some-clause-seen
returns-in-Some-clause-seen c =
    let live : IsLive c.args.tree.now c.in-Some.id.key = subst (λ (focus : Option Id). IfSome focus (λ (id : Id). IsLive c.args.tree.now id.key)) c.in-Some.is c.requires.holds.focus in
    c.key_on.ensures.seen ∙ sym (on_key-focus c.args.tree.now c.args.pointer.now c.in-Some.id c.args.byte c.requires.widgets live c.in-Some.is)

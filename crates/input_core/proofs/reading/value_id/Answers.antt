use Rattle.std.proofs.Common.{◌≡◌, ◌∙◌, Some, None, ap, sym}
use Rattle.std.specs.Option.{option_map}
use Rattle.tree_core.specs.declared.id.Id.{Id}
use Rattle.widget_model.specs.Links.{linked_id}
use Rattle.input_core.proofs.Links.{value_key-some, value_key-none}
use Rattle.input_core.proofs.reading.value_id.Goals as goal

pub returns-in-Some-clause-key : goal.returns-in-Some-clause-key
returns-in-Some-clause-key c =
    let found : linked_id c.args.tree.now c.args.id.key ≡ Some c.in-Some.variable.key = sym c.link.ensures.found ∙ ap (option_map (λ (id : Id). id.key)) c.in-Some.is in
    value_key-some c.args.tree.now c.args.id.key c.in-Some.variable c.requires.widgets c.requires.live c.in-Some.ensures.live found

pub returns-in-None-clause-key : goal.returns-in-None-clause-key
returns-in-None-clause-key c =
    let none : linked_id c.args.tree.now c.args.id.key ≡ None = sym c.link.ensures.found ∙ ap (option_map (λ (id : Id). id.key)) c.in-None.is in
    value_key-none c.args.tree.now c.args.id c.requires.widgets c.requires.live none

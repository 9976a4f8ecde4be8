use Rattle.std.proofs.Common.{◌≡◌, ◌∙◌, Some, None, ap, sym, w32}
use Rattle.std.proofs.lemmas.Int.{to_z-of_z}
use Rattle.std.specs.Option.{option_map}
use Rattle.tree_core.specs.declared.id.Id.{Id}
use Rattle.widget_model.specs.Links.{linked_id}
use Rattle.input_core.proofs.Links.{linked_value-some, linked_value-none}
use Rattle.input_core.proofs.reading.linked_value.Goals as goal

pub returns-in-Some : goal.returns-in-Some
returns-in-Some c =
    let tree = c.args.tree.now in
    let found : linked_id tree c.args.id.key ≡ Some c.in-Some.variable.key = sym c.link.ensures.found ∙ ap (option_map (λ (id : Id). id.key)) c.in-Some.is in
    ap Some (to_z-of_z w32 c.number.result (record { sfits = c.number.type_inv }) ∙ c.number.ensures) ∙ sym (linked_value-some tree c.args.id.key c.in-Some.variable.key c.requires.widgets c.requires.live c.in-Some.ensures.live found)

pub returns-in-None : goal.returns-in-None
returns-in-None c =
    let none : linked_id c.args.tree.now c.args.id.key ≡ None = sym c.link.ensures.found ∙ ap (option_map (λ (id : Id). id.key)) c.in-None.is in
    sym (linked_value-none c.args.tree.now c.args.id.key c.requires.widgets c.requires.live none)

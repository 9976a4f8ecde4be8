use Rattle.std.proofs.Common.{ℕ, Some, ◌∙◌, sym, ap, w32, rules}
use Rattle.std.specs.Option.{option_map}
use Rattle.std.proofs.lemmas.Int.{to_z-of_z}
use Rattle.kind_core.specs.declared.kinds.Attr.TheVariants.{Value}
use Rattle.scene_model.specs.Values.{number_of}
use Rattle.scene_core.specs.Children.{row_for}
use Rattle.scene_core.proofs.Numbered.{linked_read}
use Rattle.look_data.proofs.reading.linked_value.Goals as goal

pub returns-in-Some : goal.returns-in-Some
returns-in-Some c =
    ap Some (to_z-of_z w32 c.number_of.result (search rules) ∙ c.number_of.ensures)
    ∙ ap (option_map (λ (n : ℕ). number_of Value (row_for c.args.tree.now n))) c.in-Some.ensures.found
    ∙ sym (linked_read c.args.tree.now c.args.id.key c.link.ensures.valid c.requires)

pub returns-in-None : goal.returns-in-None
returns-in-None c =
    ap (option_map (λ (n : ℕ). number_of Value (row_for c.args.tree.now n))) c.in-None.ensures.found
    ∙ sym (linked_read c.args.tree.now c.args.id.key c.link.ensures.valid c.requires)

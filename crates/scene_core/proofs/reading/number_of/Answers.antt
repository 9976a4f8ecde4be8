use Rattle.std.proofs.Common.{◌∙◌, ap, rules, w32}
use Rattle.std.proofs.lemmas.Int.{to_z-of_z}
use Rattle.scene_core.proofs.Numbered.{read}
use Rattle.widget_model.specs.Rows.{attr_of}
use Rattle.scene_model.specs.Values.{number_in}
use Rattle.scene_core.proofs.reading.number_of.Goals as goal

pub returns : goal.returns
returns c = to_z-of_z w32 c.number_in.result (search rules) ∙ c.number_in.ensures ∙ ap number_in (read (λ row. attr_of row c.args.attr) c.args.tree.now c.args.id.key _ c.attr.ensures.value)

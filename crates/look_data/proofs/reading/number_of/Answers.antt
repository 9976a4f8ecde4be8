use Rattle.std.proofs.Common.{◌∙◌, ap, w32, rules}
use Rattle.std.proofs.lemmas.Int.{to_z-of_z}
use Rattle.widget_model.specs.Rows.{Row, attr_of}
use Rattle.scene_model.specs.Values.{number_in}
use Rattle.scene_core.proofs.Numbered.{read}
use Rattle.look_data.proofs.reading.number_of.Goals as goal

pub returns : goal.returns
returns c = to_z-of_z w32 c.number_in.result (search rules) ∙ c.number_in.ensures ∙ ap number_in (read (λ (row : Row). attr_of row c.args.attr) c.args.tree.now c.args.id.key c.attr.result c.attr.ensures.value)

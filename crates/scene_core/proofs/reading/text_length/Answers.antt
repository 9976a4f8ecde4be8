use Rattle.std.proofs.Common.{◌∙◌, ap, length}
use Rattle.scene_core.proofs.Numbered.{read}
use Rattle.widget_model.specs.Rows.{attr_of}
use Rattle.scene_model.specs.Values.{text_in}
use Rattle.scene_core.proofs.reading.text_length.Goals as goal

pub returns : goal.returns
returns c = c.length_in.ensures ∙ ap (λ v. length (text_in v)) (read (λ row. attr_of row c.args.attr) c.args.tree.now c.args.id.key _ c.attr.ensures.value)

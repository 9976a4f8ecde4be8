use Rattle.std.proofs.Common.{◌∙◌, sym, ap}
use Rattle.widget_model.specs.Rows.{Row, attr_of}
use Rattle.scene_model.specs.Values.{text_in}
use Rattle.scene_core.proofs.Numbered.{read}
use Rattle.look_data.proofs.reading.text_of.Goals as goal

pub returns-in-Some : goal.returns-in-Some
returns-in-Some c = c.words_of.ensures ∙ ap text_in (sym c.in-Some.is) ∙ ap text_in (read (λ (row : Row). attr_of row c.args.attr) c.args.tree.now c.args.id.key c.attr.result c.attr.ensures.value)

pub returns-in-None : goal.returns-in-None
returns-in-None c = c.empty.ensures ∙ ap text_in (sym c.in-None.is) ∙ ap text_in (read (λ (row : Row). attr_of row c.args.attr) c.args.tree.now c.args.id.key c.attr.result c.attr.ensures.value)

use Rattle.std.proofs.Common.{sym, ap, ◌∙◌}
use Rattle.kind_core.specs.declared.kinds.Attr.TheVariants.{Text}
use Rattle.widget_model.specs.Rows.{Row, attr_of}
use Rattle.scene_model.specs.Values.{text_in}
use Rattle.input_core.proofs.Numbers.{numbered_by}
use Rattle.input_core.proofs.reading.text.Goals as goal

pub returns-in-Some : goal.returns-in-Some
returns-in-Some c =
    c.words_of.ensures ∙ sym (ap text_in (numbered_by (λ (row : Row). attr_of row Text) c.args.tree.now.entries c.args.id.key c.attr.result c.attr.ensures.value ∙ c.in-Some.is))

pub returns-in-None : goal.returns-in-None
returns-in-None c =
    c.empty.ensures ∙ sym (ap text_in (numbered_by (λ (row : Row). attr_of row Text) c.args.tree.now.entries c.args.id.key c.attr.result c.attr.ensures.value ∙ c.in-None.is))

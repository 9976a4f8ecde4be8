use Rattle.std.proofs.Common.{sym, ap, ◌∙◌, w32}
use Rattle.std.proofs.lemmas.Int.{to_z-of_z}
use Rattle.widget_model.specs.Rows.{Row, attr_of}
use Rattle.scene_model.specs.Values.{number_in}
use Rattle.input_core.proofs.Numbers.{numbered_by}
use Rattle.input_core.proofs.reading.number.Goals as goal

pub returns : goal.returns
returns c =
    to_z-of_z w32 c.number_in.result (record { sfits = c.number_in.type_inv }) ∙ c.number_in.ensures ∙ sym (ap number_in (numbered_by (λ (row : Row). attr_of row c.args.attr) c.args.tree.now.entries c.args.id.key c.attr.result c.attr.ensures.value))

use Rattle.scene_core.proofs.Numbered.{read}
use Rattle.widget_model.specs.Rows.{column_rule_of, row_rule_of}
use Rattle.scene_core.proofs.reading.rule_of.Goals as goal

pub returns-in-Across : goal.returns-in-Across
returns-in-Across c = rw c.in-Across.is (read (λ row. column_rule_of row c.args.track) c.args.tree.now c.args.id.key _ c.column_rule.ensures.rule)

pub returns-in-Down : goal.returns-in-Down
returns-in-Down c = rw c.in-Down.is (read (λ row. row_rule_of row c.args.track) c.args.tree.now c.args.id.key _ c.row_rule.ensures.rule)

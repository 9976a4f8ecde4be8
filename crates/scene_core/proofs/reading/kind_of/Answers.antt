use Rattle.scene_core.proofs.Numbered.{read}
use Rattle.scene_core.proofs.reading.kind_of.Goals as goal

pub returns : goal.returns
returns c = read (λ row. row.kind) c.args.tree.now c.args.id.key _ c.kind.ensures.kind

use Rattle.scene_model.proofs.LevelLaws.{leasts_come_from_children}
use Rattle.scene_core.proofs.laws.leasts_come_from_children.Goals as goal

pub returns : goal.returns
returns c = leasts_come_from_children

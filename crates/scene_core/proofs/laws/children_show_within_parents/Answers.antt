use Rattle.scene_model.proofs.LevelLaws.{children_show_within_parents}
use Rattle.scene_core.proofs.laws.children_show_within_parents.Goals as goal

pub returns : goal.returns
returns c = children_show_within_parents

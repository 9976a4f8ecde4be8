use Rattle.scene_model.proofs.LevelLaws.{children_have_their_parents_root}
use Rattle.scene_core.proofs.laws.children_have_their_parents_root.Goals as goal

pub returns : goal.returns
returns c = children_have_their_parents_root

use Rattle.scene_model.proofs.LevelLaws.{lowest_comes_from_child}
use Rattle.scene_core.proofs.laws.lowest_comes_from_child.Goals as goal

pub returns : goal.returns
returns c = lowest_comes_from_child

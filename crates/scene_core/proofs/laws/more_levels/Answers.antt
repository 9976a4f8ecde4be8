use Rattle.scene_model.proofs.LevelLaws.{more_levels}
use Rattle.scene_core.proofs.laws.more_levels.Goals as goal

pub returns : goal.returns
returns c = more_levels

use Rattle.scene_model.proofs.Ranges.{leasts_are_small}
use Rattle.scene_core.proofs.laws.leasts_are_small.Goals as goal

pub returns : goal.returns
returns c = leasts_are_small

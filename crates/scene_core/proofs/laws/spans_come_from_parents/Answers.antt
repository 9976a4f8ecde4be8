use Rattle.scene_model.proofs.LevelLaws.{spans_come_from_parents}
use Rattle.scene_core.proofs.laws.spans_come_from_parents.Goals as goal

pub returns : goal.returns
returns c = spans_come_from_parents

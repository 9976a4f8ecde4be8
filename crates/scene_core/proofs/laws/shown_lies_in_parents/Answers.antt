use Rattle.scene_model.proofs.Apart.{shown_lies_in_parents}
use Rattle.scene_core.proofs.laws.shown_lies_in_parents.Goals as goal

pub returns : goal.returns
returns c = shown_lies_in_parents

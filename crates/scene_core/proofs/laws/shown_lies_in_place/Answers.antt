use Rattle.scene_model.proofs.Apart.{shown_lies_in_place}
use Rattle.scene_core.proofs.laws.shown_lies_in_place.Goals as goal

pub returns : goal.returns
returns c = shown_lies_in_place

use Rattle.scene_model.proofs.TopWidget.{showing_child_is_found}
use Rattle.scene_core.proofs.laws.showing_child_is_found.Goals as goal

pub returns : goal.returns
returns c = showing_child_is_found

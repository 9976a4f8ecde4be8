use Rattle.scene_model.proofs.TopWidget.{top_is_on_top}
use Rattle.scene_core.proofs.laws.top_is_on_top.Goals as goal

pub returns : goal.returns
returns c = top_is_on_top

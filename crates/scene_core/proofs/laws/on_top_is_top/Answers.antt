use Rattle.scene_model.proofs.TopWidget.{on_top_is_top}
use Rattle.scene_core.proofs.laws.on_top_is_top.Goals as goal

pub returns : goal.returns
returns c = on_top_is_top

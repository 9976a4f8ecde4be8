use Rattle.scene_model.proofs.TopWidget.{no_top_shows_nothing}
use Rattle.scene_core.proofs.laws.no_top_shows_nothing.Goals as goal

pub returns : goal.returns
returns c = no_top_shows_nothing

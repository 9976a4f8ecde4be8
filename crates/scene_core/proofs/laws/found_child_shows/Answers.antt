use Rattle.scene_model.proofs.TopWidget.{found_child_shows}
use Rattle.scene_core.proofs.laws.found_child_shows.Goals as goal

pub returns : goal.returns
returns c = found_child_shows

use Rattle.scene_core.proofs.laws.places_are_made_in_parents.Goals as goal
use Rattle.scene_model.proofs.LevelLaws.{places_are_made_in_parents}

pub returns : goal.returns
returns c = places_are_made_in_parents

use Rattle.scene_model.proofs.Apart.{places_of_children_are_apart}
use Rattle.scene_core.proofs.laws.places_of_children_are_apart.Goals as goal

pub returns : goal.returns
returns c = places_of_children_are_apart

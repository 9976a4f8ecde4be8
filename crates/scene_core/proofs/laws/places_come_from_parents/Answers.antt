use Rattle.scene_model.proofs.FromParents.{places_come_from_parents}
use Rattle.scene_core.proofs.laws.places_come_from_parents.Goals as goal

pub returns : goal.returns
returns c = places_come_from_parents

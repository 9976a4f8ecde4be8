use Rattle.scene_model.proofs.Ranges.{places_are_in_range}
use Rattle.scene_core.proofs.laws.places_are_in_range.Goals as goal

pub returns : goal.returns
returns c = places_are_in_range

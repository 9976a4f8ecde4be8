use Rattle.scene_model.proofs.Ranges.{tracks_are_small}
use Rattle.scene_core.proofs.laws.tracks_are_small.Goals as goal

pub returns : goal.returns
returns c = tracks_are_small

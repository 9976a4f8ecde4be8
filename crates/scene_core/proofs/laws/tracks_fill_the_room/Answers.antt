use Rattle.scene_model.proofs.Filling.{tracks_fill_the_room}
use Rattle.scene_core.proofs.laws.tracks_fill_the_room.Goals as goal

pub returns : goal.returns
returns c = tracks_fill_the_room

use Rattle.scene_model.proofs.Filling.{weighed_tracks_fill_the_room}
use Rattle.scene_core.proofs.laws.weighed_tracks_fill_the_room.Goals as goal

pub returns : goal.returns
returns c = weighed_tracks_fill_the_room

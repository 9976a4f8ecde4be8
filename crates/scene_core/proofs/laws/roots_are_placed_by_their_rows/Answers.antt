use Rattle.scene_core.proofs.laws.roots_are_placed_by_their_rows.Goals as goal
use Rattle.scene_model.proofs.LevelLaws.{roots_are_placed_by_their_rows}

pub returns : goal.returns
returns c = roots_are_placed_by_their_rows

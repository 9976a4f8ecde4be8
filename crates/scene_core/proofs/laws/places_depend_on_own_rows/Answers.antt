use Rattle.scene_model.proofs.OwnRows.{places_depend_on_own_rows}
use Rattle.scene_core.proofs.laws.places_depend_on_own_rows.Goals as goal

pub returns : goal.returns
returns c = places_depend_on_own_rows

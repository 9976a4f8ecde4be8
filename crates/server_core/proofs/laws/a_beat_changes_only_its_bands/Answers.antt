use Rattle.machine_model.proofs.Beat.{colour-beat}
use Rattle.server_core.proofs.laws.a_beat_changes_only_its_bands.Goals as goal

pub returns : goal.returns
returns c = colour-beat

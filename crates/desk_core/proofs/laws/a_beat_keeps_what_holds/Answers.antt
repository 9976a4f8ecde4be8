use Rattle.desk_model.proofs.KeptBeat.{beats_keep}
use Rattle.desk_core.proofs.laws.a_beat_keeps_what_holds.Goals as goal

pub returns : goal.returns
returns c = beats_keep

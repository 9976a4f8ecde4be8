use Rattle.machine_model.proofs.Still.{unreached_still}
use Rattle.server_core.proofs.laws.nothing_is_reached_without_a_change.Goals as goal

pub returns : goal.returns
returns c = unreached_still

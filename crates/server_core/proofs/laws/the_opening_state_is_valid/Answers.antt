use Rattle.machine_model.proofs.Opening.{IsState-opening}
use Rattle.server_core.proofs.laws.the_opening_state_is_valid.Goals as goal

pub returns : goal.returns
returns c = IsState-opening

use Rattle.machine_model.proofs.RunParts.{IsState-run}
use Rattle.server_core.proofs.laws.every_run_keeps_the_state_valid.Goals as goal

pub returns : goal.returns
returns c = IsState-run

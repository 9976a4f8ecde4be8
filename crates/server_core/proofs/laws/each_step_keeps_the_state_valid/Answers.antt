use Rattle.machine_model.proofs.Steps.{IsState-step}
use Rattle.server_core.proofs.laws.each_step_keeps_the_state_valid.Goals as goal

pub returns : goal.returns
returns c = IsState-step

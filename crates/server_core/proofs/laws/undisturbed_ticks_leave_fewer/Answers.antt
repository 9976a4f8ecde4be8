use Rattle.machine_model.proofs.Runs.{fewer-ticks}
use Rattle.server_core.proofs.laws.undisturbed_ticks_leave_fewer.Goals as goal

pub returns : goal.returns
returns c = fewer-ticks

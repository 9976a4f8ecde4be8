use Rattle.machine_model.proofs.Steps.{screen-step}
use Rattle.server_core.proofs.laws.only_ticks_draw.Goals as goal

pub returns : goal.returns
returns c = screen-step

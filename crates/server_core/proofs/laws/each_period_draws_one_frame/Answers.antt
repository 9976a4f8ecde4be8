use Rattle.machine_model.proofs.Runs.{KeepsLaws-run}
use Rattle.server_core.proofs.laws.each_period_draws_one_frame.Goals as goal

pub returns : goal.returns
returns c = λ from moments is run. (KeepsLaws-run from moments is run).periods

use Rattle.machine_model.proofs.Runs.{KeepsLaws-run}
use Rattle.server_core.proofs.laws.every_run_keeps_the_laws.Goals as goal

pub returns : goal.returns
returns c = KeepsLaws-run

use Rattle.machine_model.proofs.Runs.{KeepsBudget-run}
use Rattle.server_core.proofs.laws.no_tick_writes_more_than_the_budget.Goals as goal

pub returns : goal.returns
returns c = KeepsBudget-run

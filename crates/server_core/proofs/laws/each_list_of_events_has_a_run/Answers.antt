use Rattle.machine_model.proofs.Progress.{some_run}
use Rattle.server_core.proofs.laws.each_list_of_events_has_a_run.Goals as goal

pub returns : goal.returns
returns c = some_run

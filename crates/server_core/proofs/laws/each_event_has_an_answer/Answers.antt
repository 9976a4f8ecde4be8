use Rattle.machine_model.proofs.Progress.{next_state}
use Rattle.server_core.proofs.laws.each_event_has_an_answer.Goals as goal

pub returns : goal.returns
returns c = next_state

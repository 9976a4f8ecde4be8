use Rattle.machine_model.proofs.RunParts.{Run-append, state_after-append}
use Rattle.server_core.proofs.laws.runs_join.Goals as goal

pub returns : goal.returns
returns c = λ from first second p q. (Run-append from first second p q, state_after-append from first second)

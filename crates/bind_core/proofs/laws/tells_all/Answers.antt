use Rattle.bind_core.proofs.Runs.{tells_all}
use Rattle.bind_core.proofs.laws.tells_all.Goals as goal

pub returns : goal.returns
returns c = tells_all

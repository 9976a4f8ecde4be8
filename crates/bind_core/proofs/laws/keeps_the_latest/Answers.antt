use Rattle.bind_core.proofs.Runs.{keeps_the_latest}
use Rattle.bind_core.proofs.laws.keeps_the_latest.Goals as goal

pub returns : goal.returns
returns c = keeps_the_latest

use Rattle.vscreen_core.proofs.Periods.{commit_waits}
use Rattle.vscreen_core.proofs.laws.commit_waits.Goals as goal

pub returns : goal.returns
returns c = commit_waits

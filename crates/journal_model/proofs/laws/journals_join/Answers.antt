use Rattle.journal_model.proofs.Runs.{join}
use Rattle.journal_model.proofs.laws.journals_join.Goals as goal

pub returns : goal.returns
returns c = join

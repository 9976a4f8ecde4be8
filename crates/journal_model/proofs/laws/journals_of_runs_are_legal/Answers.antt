use Rattle.journal_model.proofs.Runs.{legal-runs}
use Rattle.journal_model.proofs.laws.journals_of_runs_are_legal.Goals as goal

pub returns : goal.returns
returns c = legal-runs

use Rattle.journal_model.proofs.Runs.{parts}
use Rattle.journal_model.proofs.laws.journals_part.Goals as goal

pub returns : goal.returns
returns c = parts

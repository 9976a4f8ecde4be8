use Rattle.journal_model.proofs.Steps.{legal-step}
use Rattle.journal_model.proofs.laws.steps_are_legal.Goals as goal

pub returns : goal.returns
returns c = legal-step

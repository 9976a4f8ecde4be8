use Rattle.desk_model.proofs.Refused.{refused_byes_change_nothing}
use Rattle.desk_core.proofs.laws.a_refused_bye_changes_nothing.Goals as goal

pub returns : goal.returns
returns c = refused_byes_change_nothing

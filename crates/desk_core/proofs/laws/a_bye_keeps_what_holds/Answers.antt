use Rattle.desk_model.proofs.Desks.{IsDesk-bye}
use Rattle.desk_core.proofs.laws.a_bye_keeps_what_holds.Goals as goal

pub returns : goal.returns
returns c = IsDesk-bye

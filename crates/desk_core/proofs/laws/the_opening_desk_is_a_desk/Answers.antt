use Rattle.desk_model.proofs.Desks.{IsDesk-opening}
use Rattle.desk_core.proofs.laws.the_opening_desk_is_a_desk.Goals as goal

pub returns : goal.returns
returns c = IsDesk-opening

use Rattle.desk_model.proofs.Desks.{IsDesk-connect}
use Rattle.desk_core.proofs.laws.a_connect_keeps_what_holds.Goals as goal

pub returns : goal.returns
returns c = IsDesk-connect

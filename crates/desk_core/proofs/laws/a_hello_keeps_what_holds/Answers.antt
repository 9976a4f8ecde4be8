use Rattle.desk_model.proofs.Desks.{IsDesk-hello}
use Rattle.desk_core.proofs.laws.a_hello_keeps_what_holds.Goals as goal

pub returns : goal.returns
returns c = IsDesk-hello

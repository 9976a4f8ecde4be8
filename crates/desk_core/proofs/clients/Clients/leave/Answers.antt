use Rattle.std.proofs.Common.{List, sym, subst}
use Rattle.desk_model.specs.Desk.{Ring}
use Rattle.desk_core.specs.ClientList.{rings_of, clients_of, IsJoined}
use Rattle.desk_core.proofs.ClientLists.{IsJoined-others}
use Rattle.desk_core.proofs.clients.Clients.leave.Goals as goal

pub invariant_of-self : goal.invariant_of-self
invariant_of-self c =
    let P : List Ring → Type 0 = λ rings. IsJoined (clients_of rings) in
    subst P (sym c.take_out.ensures) (IsJoined-others (rings_of c.self.inside.members.items) c.args.client c.self.invariant)

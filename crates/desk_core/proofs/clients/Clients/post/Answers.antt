use Rattle.std.proofs.Common.{List, sym, subst}
use Rattle.bind_core.specs.Ring.{event_of}
use Rattle.bind_core.specs.Posting.{after_post}
use Rattle.desk_model.specs.Desk.{Ring}
use Rattle.desk_core.specs.ClientList.{rings_of, clients_of, IsJoined}
use Rattle.desk_core.proofs.ClientLists.{clients-with_ring}
use Rattle.desk_core.proofs.clients.Clients.post.Goals as goal

pub invariant_of-self : goal.invariant_of-self
invariant_of-self c =
    let P : List Ring → Type 0 = λ rings. IsJoined (clients_of rings) in
    subst P (sym c.post_member.ensures) (subst IsJoined (sym (clients-with_ring c.args.client (λ ring. after_post ring (event_of c.args.posted)) (rings_of c.self.inside.members.items))) c.self.invariant)

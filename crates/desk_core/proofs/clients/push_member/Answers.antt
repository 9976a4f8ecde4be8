use Rattle.std.proofs.Common.{List, sym, ap, ◌∙◌, subst}
use Rattle.desk_core.specs.declared.member.Member.{Member}
use Rattle.desk_core.specs.ClientList.{ring_of_member, rings_of, clients_of, IsJoined}
use Rattle.desk_core.proofs.ClientLists.{rings-push, clients-push, IsJoined-push}
use Rattle.desk_core.proofs.clients.push_member.Goals as goal

pub returns-clause-joined : goal.returns-clause-joined
returns-clause-joined c =
    let old = c.args.members.now.items in
    let member : Member = record { client = c.args.client; events = c.args.events } in
    subst IsJoined (sym (ap (λ (ms : List Member). clients_of (rings_of ms)) c.in-Ok.ensures.items ∙ ap clients_of (rings-push old member) ∙ clients-push (rings_of old) (ring_of_member member)))
    (IsJoined-push (clients_of (rings_of old)) c.args.client c.requires.joined c.requires.low c.requires.high c.requires.new_client)

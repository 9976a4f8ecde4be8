use Rattle.std.proofs.Common.{List, sym, ap, ◌∙◌}
use Rattle.widget_model.specs.Clients.{is_joined}
use Rattle.desk_model.specs.Desk.{Ring}
use Rattle.desk_model.specs.Clients.{free_client}
use Rattle.desk_core.specs.declared.member.Member.{Member}
use Rattle.desk_core.specs.ClientList.{clients_of, rings_of}
use Rattle.desk_core.proofs.ClientLists.{joined-members, free_further, free-here}
use Rattle.desk_core.proofs.clients.Clients.free.Goals as goal

pub loop-client-preserved : goal.loop-client-preserved
loop-client-preserved c =
    c.loop-client.invariant ∙ free_further (clients_of (rings_of c.as_slice-members.result.now)) c.loop-client.client c.loop-client-test.true (sym (joined-members c.as_slice-members.result.now c.loop-client.client) ∙ sym c.if-not-is_joined.ensures)

pub returns-then-not-is_joined-clause-free : goal.returns-then-not-is_joined-clause-free
returns-then-not-is_joined-clause-free c =
    let members = c.as_slice-members.result.now in
    let absent = sym (joined-members members c.loop-client.client) ∙ sym c.if-not-is_joined.ensures in
    sym
    (sym (ap (λ (rings : List Ring). free_client (clients_of rings)) c.self.view_is)
    ∙ ap (λ (ms : List Member). free_client (clients_of (rings_of ms))) (sym c.as_slice-members.ensures.value)
    ∙ c.loop-client.invariant
    ∙ free-here (clients_of (rings_of members)) c.loop-client.client c.loop-client-test.true absent)

pub returns-then-not-is_joined-clause-new_client : goal.returns-then-not-is_joined-clause-new_client
returns-then-not-is_joined-clause-new_client c =
    let members = c.as_slice-members.result.now in
    sym (ap (λ (rings : List Ring). is_joined (clients_of rings) c.loop-client.client) c.self.view_is)
    ∙ ap (λ (ms : List Member). is_joined (clients_of (rings_of ms)) c.loop-client.client) (sym c.as_slice-members.ensures.value)
    ∙ sym (joined-members members c.loop-client.client) ∙ sym c.if-not-is_joined.ensures

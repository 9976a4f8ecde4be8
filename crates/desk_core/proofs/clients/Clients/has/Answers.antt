use Rattle.std.proofs.Common.{◌≡◌, nat_eq, List, ap, ◌∙◌}
use Rattle.std.specs.List.{list_any}
use Rattle.desk_core.specs.declared.member.Member.{Member}
use Rattle.widget_model.specs.Clients.{is_joined}
use Rattle.desk_model.specs.Desk.{Ring}
use Rattle.desk_core.specs.ClientList.{clients_of}
use Rattle.desk_core.proofs.ClientLists.{joined-members}
use Rattle.desk_core.proofs.clients.Clients.has.Goals as goal

pub returns : goal.returns
returns c =
    let told : c.is_joined.result ≡ list_any (λ (member : Member). nat_eq c.args.client member.client) c.self.inside.members.items = c.is_joined.ensures ∙ ap (list_any (λ (member : Member). nat_eq c.args.client member.client)) c.as_slice.ensures.value in
    told ∙ joined-members c.self.inside.members.items c.args.client ∙ ap (λ (rings : List Ring). is_joined (clients_of rings) c.args.client) c.self.view_is

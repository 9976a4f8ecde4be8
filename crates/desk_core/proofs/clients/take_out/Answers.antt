use Rattle.std.proofs.Common.{rules, nat_eq, not, ap, ◌∙◌}
use Rattle.std.proofs.lemmas.Fn.{filter_same}
use Rattle.desk_core.specs.declared.member.Member.{Member}
use Rattle.desk_core.specs.ClientList.{rings_of}
use Rattle.desk_core.proofs.ClientLists.{rings-filter}
use Rattle.desk_core.proofs.clients.take_out.Goals as goal

pub returns : goal.returns
returns c =
    ap rings_of (filter_same _ (λ (member : Member). not (nat_eq c.args.client member.client)) _ (λ x b f' k. search rules) _ _ c.retain.ensures.filtered)
    ∙ rings-filter c.args.client c.args.members.now.items

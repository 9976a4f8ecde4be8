use Rattle.std.proofs.Common.{List, slice_get, sym, ap, ◌∙◌, arith}
use Rattle.std.specs.Option.{option_map}
use Rattle.desk_core.specs.declared.member.Member.{Member}
use Rattle.std.proofs.lemmas.Bool.{true≢false}
use Rattle.bind_core.specs.Ring.{event_of}
use Rattle.bind_core.specs.Posting.{after_post}
use Rattle.widget_model.specs.Clients.{is_joined}
use Rattle.desk_core.specs.ClientList.{clients_of, rings_of}
use Rattle.desk_core.proofs.ClientLists.{found-within, rings-found, with_ring-absent}
use Rattle.desk_core.proofs.clients.post_member.Goals as goal

pub returns-in-None : goal.returns-in-None
returns-in-None c =
    sym
    (with_ring-absent c.args.client (λ ring. after_post ring (event_of c.args.posted)) (rings_of c.args.members.now.items)
    (ap (λ (ms : List Member). is_joined (clients_of (rings_of ms)) c.args.client) (sym c.as_slice.ensures.value) ∙ c.in-None.ensures))

pub unreachable-requires : goal.unreachable-requires
unreachable-requires c =
    let within = found-within c.as_slice.result.now c.in-Some.index c.args.client c.in-Some.ensures in
    true≢false (sym (c.in-None-get_mut.ensures.variant.1 (omega (arith, within, c.as_slice.ensures.len))))

pub returns : goal.returns
returns c =
    rings-found c.args.members.now.items c.in-Some.index c.args.client c.in-Some-get_mut.member.now c.requires.once (ap (λ (ms : List Member). option_map (λ (member : Member). member.client) (slice_get ms c.in-Some.index)) (sym c.as_slice.ensures.value) ∙ c.in-Some.ensures) c.in-Some-get_mut.ensures.value c.post.new.self (λ ring. after_post ring (event_of c.args.posted)) c.post.ensures.ring

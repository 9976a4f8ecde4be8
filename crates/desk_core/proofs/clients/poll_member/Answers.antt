use Rattle.std.proofs.Common.{List, slice_get, sym, ap, ◌∙◌}
use Rattle.std.specs.Option.{option_map}
use Rattle.desk_core.specs.declared.member.Member.{Member}
use Rattle.bind_core.specs.Polling.{poll_answer, after_poll}
use Rattle.desk_core.proofs.ClientLists.{answer-found, rings-found}
use Rattle.desk_core.proofs.clients.poll_member.Goals as goal

pub returns-clause-answer : goal.returns-clause-answer
returns-clause-answer c =
    c.poll.ensures.answer
    ∙ ap poll_answer (sym (answer-found c.args.members.now.items c.in-Some.index c.args.client c.in-Some-get_mut.member.now c.requires.joined.once (ap (λ (ms : List Member). option_map (λ (member : Member). member.client) (slice_get ms c.in-Some.index)) (sym c.as_slice.ensures.value) ∙ c.in-Some.ensures) c.in-Some-get_mut.ensures.value))

pub returns-clause-rings : goal.returns-clause-rings
returns-clause-rings c =
    rings-found c.args.members.now.items c.in-Some.index c.args.client c.in-Some-get_mut.member.now c.requires.joined.once (ap (λ (ms : List Member). option_map (λ (member : Member). member.client) (slice_get ms c.in-Some.index)) (sym c.as_slice.ensures.value) ∙ c.in-Some.ensures) c.in-Some-get_mut.ensures.value c.poll.new.self after_poll c.poll.ensures.ring

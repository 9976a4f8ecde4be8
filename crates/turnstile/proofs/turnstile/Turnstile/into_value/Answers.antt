use Rattle.std.proofs.Common.{arith, ◌≤◌, ◌∷◌, length, ap, ◌∙◌}
use mathlib.Core.Option.{some}
use Rattle.std.specs.Slots.{slots_items}
use Rattle.turnstile.specs.Steps.{Learns}
use Rattle.turnstile.proofs.Closing.{closes_as, learns_of, is_there}
use Rattle.turnstile.proofs.turnstile.Turnstile.into_value.Goals as goal

pub unreachable-requires : goal.unreachable-requires
unreachable-requires g c =
    let seat = c.args.all.seat.me.0 in
    let made : c.into_table.result.shared.key.made ≤ length (seat.own ∷ seat.joined) = (let t = ap (λ t. t.shared.key.made) c.into_table.ensures in let u = c.args.self.told in let w = c.requires.whole in omega arith) in
    is_there g.V.Kept.entries g.V.Kept.number c.args.all.seat.me.0 (slots_items c.close_with-closed.result.slots)
    (closes_as g.V.Kept.entries g.V.Kept.number c.into_table.result.shared.key.made (length (g.V.Kept.entries c.into_table.result.shared.key.value.value)) c.into_seat.result.id c.into_seat.result.me.0 c.args.all.seat.me.0
    (slots_items c.close_with-closed.result.words) (slots_items c.close_with-closed.result.slots) (ap (λ s. s.me.0) c.into_seat.ensures) c.requires.outside.stage made c.close_with-closed.ensures.values.2)
    (c.take-value.ensures.value ∙ ap (λ o. some o) c.in-None.is)

learnt : (g : _) (c : goal.In-Some g) → Learns g.V.Kept.number c.args.all.seat.me.0 (g.V.Kept.entries c.in-Some.value)
learnt g c =
    let seat = c.args.all.seat.me.0 in
    let made : c.into_table.result.shared.key.made ≤ length (seat.own ∷ seat.joined) = (let t = ap (λ t. t.shared.key.made) c.into_table.ensures in let u = c.args.self.told in let w = c.requires.whole in omega arith) in
    learns_of g.V.Kept.entries g.V.Kept.number c.args.all.seat.me.0 (slots_items c.close_with-closed.result.slots)
    (closes_as g.V.Kept.entries g.V.Kept.number c.into_table.result.shared.key.made (length (g.V.Kept.entries c.into_table.result.shared.key.value.value)) c.into_seat.result.id c.into_seat.result.me.0 c.args.all.seat.me.0
    (slots_items c.close_with-closed.result.words) (slots_items c.close_with-closed.result.slots) (ap (λ s. s.me.0) c.into_seat.ensures) c.requires.outside.stage made c.close_with-closed.ensures.values.2)
    c.in-Some.value (c.take-value.ensures.value ∙ ap (λ o. some o) c.in-Some.is)

pub returns-clause-tallies : goal.returns-clause-tallies
returns-clause-tallies g c = (learnt g c).tallies

pub returns-clause-whole : goal.returns-clause-whole
returns-clause-whole g c = let m = c.requires.own.made in let w = c.requires.whole in (learnt g c).whole (omega arith)

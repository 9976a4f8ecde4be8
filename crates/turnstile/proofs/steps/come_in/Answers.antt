use Rattle.std.proofs.Common.{rules, ◌≡◌, ◌∷◌, sym, ap, ◌∙◌, subst, Option, Some}
use Rattle.atomic_table.specs.Table.{rest}
use Rattle.turnstile.specs.declared.view.View.{View}
use Rattle.turnstile.specs.declared.view.Stage.TheVariants.{Waits}
use Rattle.turnstile.specs.Views.{at_stage}
use Rattle.turnstile.specs.Steps.{Holder, Learns}
use Rattle.turnstile.proofs.Publishing.{value_in}
use Rattle.turnstile.proofs.steps.come_in.Goals as goal

pub exchange-requires : goal.exchange-requires
exchange-requires g c = (
  search rules,
  (
    _,
    ap (λ (m : Holder g.row.V.Denot g.row.V-Entry.Denot). m.1) c.wait_for_turn.ensures.inside.1.after
        ∙ ap (λ (m : Holder g.row.V.Denot g.row.V-Entry.Denot). (0, Some c.wait_for_turn.ensures.inside.1.value) ∷ rest m.1) (sym c.wait_for_turn.ensures.inside.1.after),
  ),
)

pub returns-clause-learns : goal.returns-clause-learns
returns-clause-learns g c =
    let held : (0, Some c.wait_for_turn.ensures.inside.1.value) ∷ c.draw-ticket.new.seat.me.1 ≡ (0, Some c.in-Some.value) ∷ rest c.wait_for_turn.new.seat.me.1 =
    ap (λ (m : Holder g.row.V.Denot g.row.V-Entry.Denot). m.1) (sym c.wait_for_turn.ensures.inside.1.after) ∙ (c.exchange.ensures.2 ∙ ap (λ (o : Option g.row.V.Denot). (0, o) ∷ rest c.wait_for_turn.new.seat.me.1) c.in-Some.is) in
    let same : c.wait_for_turn.ensures.inside.1.value ≡ c.in-Some.value = ap (value_in c.in-Some.value) held in
    let learns : Learns g.V.Kept.number (at_stage (Waits c.draw-ticket.ensures.waits.0) c.args.seat.now.me.0) (g.V.Kept.entries c.in-Some.value) =
    subst (λ (z : View g.row.V-Entry.Denot × g.row.V.Denot). Learns g.V.Kept.number z.0 (g.V.Kept.entries z.1))
    (λ k. (ap (λ (m : Holder g.row.V.Denot g.row.V-Entry.Denot). m.0) c.draw-ticket.ensures.waits.2 k, same k)) c.wait_for_turn.ensures.inside.1.learns in
    record { tallies = learns.tallies; whole = learns.whole }

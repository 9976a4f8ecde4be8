use Rattle.std.proofs.Common.{◌≡◌, ℕ, List, refl, ap, sym, ◌∙◌}
use Rattle.bind_core.specs.Polling.{poll_answer, after_poll}
use Rattle.widget_model.specs.Clients.{is_joined}
use Rattle.desk_model.specs.Desk.{Ring, is_connected}
use Rattle.desk_model.specs.Polling.{poll_reply, ring_of, with_ring}
use Rattle.desk_commands.specs.Parts.{desk_of, stage_of}
use Rattle.desk_core.specs.View.{DeskView}
use Rattle.desk_core.proofs.Calls.{polled-kept}
use Rattle.desk_core.proofs.Visits.{visit-of}
use Rattle.desk_core.proofs.desk.Desk.poll.Goals as goal

pub poll-requires : goal.poll-requires
poll-requires c =
    ap (λ (clients : List ℕ). is_joined clients c.args.client) c.self.invariant.parts.clients ∙ ap (λ (s : DeskView). is_connected s.desk c.args.client) c.self.view_is ∙ c.requires

pub invariant_of-self : goal.invariant_of-self
invariant_of-self c =
    let i = c.self.inside in
    polled-kept i.shape i.pointer i.clients c.poll.new.self i.tree i.windows i.roster c.args.client c.self.invariant (ap (λ (s : DeskView). is_connected s.desk c.args.client) c.self.view_is ∙ c.requires) c.poll.ensures.rings

pub returns-clause-reply : goal.returns-clause-reply
returns-clause-reply c =
    c.poll_reply.ensures ∙ ap poll_reply c.poll.ensures.answer ∙ ap (λ (s : DeskView). poll_reply (poll_answer (ring_of s.desk.rings c.args.client))) c.self.view_is

pub returns-clause-desk : goal.returns-clause-desk
returns-clause-desk c =
    let i = c.self.inside in
    let desk = desk_of (stage_of i.shape i.roster i.clients i.tree i.pointer) i.tree i.windows in
    ap (λ (rs : List Ring). record desk { rings = rs }) c.poll.ensures.rings
    ∙ ap (λ (s : DeskView). record s.desk { rings = with_ring c.args.client after_poll s.desk.rings }) c.self.view_is

pub returns-clause-valid : goal.returns-clause-valid
returns-clause-valid c = (invariant_of-self c).desk

pub returns-clause-visit : goal.returns-clause-visit
returns-clause-visit c =
    let i = c.self.inside in
    visit-of c.args.self.now i.shape i.roster i.clients c.poll.new.self i.pointer i.tree i.tree i.windows i.changed i.moved i.touched.looks.items c.forget.new.touched.looks.items c.self.invariant c.self.view_is refl c.forget.ensures

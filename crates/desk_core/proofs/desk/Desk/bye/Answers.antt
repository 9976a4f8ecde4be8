use Rattle.std.proofs.Common.{◌≡◌, ◌↔◌, IsTrue, nat_lt, true, false, sym, ap, ◌∙◌, subst, arith}
use Rattle.std.proofs.lemmas.Bool.{true≢false, ltb-true, lt-ltb}
use Rattle.cmd_words.specs.declared.replies.Reply.TheVariants.{Refused}
use Rattle.cmd_words.specs.declared.replies.Refusal.TheVariants.{NotConnected}
use Rattle.widget_model.specs.Kinds.{any_kind}
use Rattle.widget_model.specs.Named.{rows_counted}
use Rattle.desk_model.specs.DeskFacts.{IsDesk}
use Rattle.desk_model.specs.Desk.{Desk, is_connected}
use Rattle.desk_model.specs.Clients.{step_bye, without_client}
use Rattle.desk_commands.specs.Parts.{desk_of, stage_of}
use Rattle.desk_commands.proofs.Admissions.{admitted-live}
use Rattle.desk_core.specs.View.{DeskView}
use Rattle.desk_core.specs.ClientList.{clients_of}
use Rattle.desk_core.proofs.ByeChanges.{tells_bye}
use Rattle.desk_core.proofs.CallSteps.{bye-absent, bye-others}
use Rattle.desk_core.proofs.Departures.{stage_without}
use Rattle.desk_core.proofs.Goings.{closed-parts, gone-desk, gone-step, gone-kept}
use Rattle.widget_model.specs.Widgets.{Widgets}
use Rattle.desk_layout.specs.Numbers.{KeepsNumbers}
use Rattle.desk_layout.proofs.LeftPlaces.{departed-numbers}
use Rattle.std.proofs.Common.{ℕ, not, nat_eq, refl}
use Rattle.std.specs.List.{filter}
use Rattle.widget_model.specs.Rows.{Row}
use Rattle.widget_model.specs.Widgets.{rows_of}
use Rattle.widget_model.specs.Forest.{IsWidgets}
use Rattle.desk_core.proofs.TouchedLooks.{left-touched}
use Rattle.desk_core.proofs.desk.Desk.bye.Goals as goal

pub returns-then-not-has-clause-step : goal.returns-then-not-has-clause-step
returns-then-not-has-clause-step c =
    ap (λ (d : Desk). (Refused NotConnected, d)) c.stay.ensures.put.desk ∙ bye-absent c.args.self.now.desk c.args.client c.stay.ensures.visit.desk.held (sym c.if-not-has.ensures)

pub returns-then-not-has-clause-others : goal.returns-then-not-has-clause-others
returns-then-not-has-clause-others c = bye-others _ _ c.args.client _ c.stay.ensures.visit.desk (returns-then-not-has-clause-step c)

pub let_go-requires-clause-parts : goal.let_go-requires-clause-parts
let_go-requires-clause-parts c =
    let i = c.self.inside in
    closed-parts (clients_of i.clients) i.tree i.windows c.close_windows.new.windows c.args.client c.self.invariant.parts c.close_windows.ensures.closed c.close_windows.ensures.valid

pub invariant_of-self : goal.invariant_of-self
invariant_of-self c =
    let i = c.self.inside in
    gone-kept i.shape i.pointer c.let_go.new.pointer i.clients c.leave.new.self i.tree c.drop_client.new.self i.windows c.close_windows.new.windows i.roster c.dismiss.new.roster c.args.client c.self.invariant
    (ap (λ (s : DeskView). is_connected s.desk c.args.client) c.self.view_is ∙ sym c.if-not-has.ensures)
    c.drop_client.ensures.left c.close_windows.ensures.closed (c.let_go.ensures.left i.shape i.roster i.clients) c.let_go.ensures.live c.leave.ensures.left c.dismiss.ensures.dismissed
    c.requires.low c.drop_client.ensures.valid c.close_windows.ensures.valid c.dismiss.ensures.limit c.dismiss.ensures.valid

pub returns-clause-step : goal.returns-clause-step
returns-clause-step c =
    let i = c.self.inside in
    gone-step i.shape i.pointer c.let_go.new.pointer i.clients c.leave.new.self i.tree c.drop_client.new.self i.windows c.close_windows.new.windows i.roster c.dismiss.new.roster c.args.client c.self.invariant
    (ap (λ (s : DeskView). is_connected s.desk c.args.client) c.self.view_is ∙ sym c.if-not-has.ensures)
    c.drop_client.ensures.left c.close_windows.ensures.closed (c.let_go.ensures.left i.shape i.roster i.clients) c.let_go.ensures.live c.leave.ensures.left c.dismiss.ensures.dismissed
    ∙ ap (λ (s : DeskView). step_bye s.desk c.args.client) c.self.view_is

pub returns-clause-others : goal.returns-clause-others
returns-clause-others c =
    let D : DeskView → Type 0 = λ s. IsDesk s.desk in
    bye-others _ _ c.args.client _ (subst D c.self.view_is c.self.invariant.desk) (returns-clause-step c)

pub returns-clause-changed : goal.returns-clause-changed
returns-clause-changed c =
    let i = c.self.inside in
    let w = i.tree in
    let client = c.args.client in
    let old = c.args.self.now.desk in
    let D : DeskView → Type 0 = λ s. IsDesk s.desk in
    let fine = subst D c.self.view_is c.self.invariant.desk in
    let left : desk_of (stage_without client (stage_of i.shape i.roster i.clients w i.pointer)) c.drop_client.new.self c.close_windows.new.windows ≡ without_client client old =
    gone-desk (stage_of i.shape i.roster i.clients w i.pointer) (clients_of i.clients) w c.drop_client.new.self i.windows c.close_windows.new.windows client c.self.invariant.parts c.drop_client.ensures.left c.close_windows.ensures.closed
    ∙ ap (λ (s : DeskView). without_client client s.desk) c.self.view_is in
    let many : c.count-count.result ≡ rows_counted client any_kind old.rows =
    c.count-count.ensures.count ∙ ap (λ (s : DeskView). rows_counted client any_kind s.desk.rows) c.self.view_is in
    let T : Desk → Type 0 = λ d. IsTrue (nat_lt 0 c.count-count.result) ↔ ((d.rows ≡ old.rows) × (d.windows ≡ old.windows) → ⊥) in
    subst T (sym left)
    (tells_bye client old.rows old.windows (nat_lt 0 c.count-count.result) (λ h. omega (arith, many, ltb-true 0 c.count-count.result h), λ h. lt-ltb 0 c.count-count.result (omega (arith, many, h))) fine.windows)

pub returns-clause-valid : goal.returns-clause-valid
returns-clause-valid c = (invariant_of-self c).desk

pub returns-clause-numbered : goal.returns-clause-numbered
returns-clause-numbered c =
    let i = c.self.inside in
    let N : DeskView → Type 0 = λ s. KeepsNumbers s.widgets.entries c.drop_client.new.self.entries in
    let D : Widgets → Type 0 = λ w. KeepsNumbers i.tree.entries w.entries in
    subst N c.self.view_is (subst D (sym c.drop_client.ensures.left) (departed-numbers i.tree c.args.client c.self.invariant.parts.tree c.requires.low))

pub returns-clause-touched : goal.returns-clause-touched
returns-clause-touched c =
    let i = c.self.inside in
    let tree = c.drop_client.new.self in
    let windows = c.close_windows.new.windows in
    let new : DeskView = record { desk = desk_of (stage_of i.shape c.dismiss.new.roster c.leave.new.self tree c.let_go.new.pointer) tree windows; changed = nat_lt 0 c.count-count.result; moved = true; widgets = tree; windows = windows; touched = c.forget.new.touched.looks.items } in
    let kept = invariant_of-self c in
    let W : DeskView → Type 0 = λ s. IsWidgets s.widgets in
    let R : DeskView → Type 0 = λ s. s.desk.rows ≡ rows_of s.widgets in
    left-touched c.args.client c.args.self.now new
    (record {
      some = c.requires.low;
      before = subst W c.self.view_is c.self.invariant.parts.tree;
      after = kept.parts.tree;
      rows = subst R c.self.view_is refl;
      rows_after = refl;
      numbers = returns-clause-numbered c;
      others = returns-clause-others c;
    })
    (ap (λ (w : Widgets). w.entries) c.drop_client.ensures.left ∙ ap (λ (s : DeskView). filter (λ (e : ℕ × Row). not (nat_eq c.args.client e.1.client)) s.widgets.entries) c.self.view_is)
    c.forget.ensures

pub dismiss-requires : goal.dismiss-requires
dismiss-requires c = record { valid = c.self.invariant.listed.valid; live = admitted-live c.self.inside.tree.entries c.self.inside.roster.entries c.self.invariant.listed.admitted }

pub returns-clause-still : goal.returns-clause-still
returns-clause-still c = λ none. absurd (true≢false none)

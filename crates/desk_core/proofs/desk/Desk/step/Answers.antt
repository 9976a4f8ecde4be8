use Rattle.std.proofs.Common.{◌≡◌, ◌↔◌, ◌&&◌, Bool, IsTrue, true, false, ap, sym, ◌∙◌, subst}
use Rattle.widget_model.specs.Widgets.{Widgets, nodes, rows_of}
use Rattle.desk_model.specs.Commands.{step}
use Rattle.desk_model.specs.Desk.{Desk, is_connected}
use Rattle.desk_model.specs.DeskFacts.{IsDesk}
use Rattle.desk_model.specs.Refusals.{is_memory}
use Rattle.desk_commands.specs.Parts.{desk_of, stage_of, windows_at}
use Rattle.cmd_words.specs.declared.replies.Reply.TheVariants.{Refused}
use Rattle.cmd_words.specs.declared.replies.Refusal.TheVariants.{NotConnected}
use Rattle.look_data.specs.Watched.{AreWatched}
use Rattle.tree_core.specs.Holds.{pointer_seen}
use Rattle.scene_core.specs.declared.view.View.{View}
use Rattle.scene_core.specs.View.{scene_of}
use Rattle.desk_moves.specs.Stays.{moves}
use Rattle.desk_core.specs.View.{DeskView, is_refused}
use Rattle.desk_core.proofs.StillDesks.{asked-unmoved, polled-unmoved, stepped-still}
use Rattle.desk_core.proofs.CallSteps.{step-absent, step-obeyed, step-others, polled-step}
use Rattle.desk_core.proofs.Calls.{obeyed-tree, obeyed-numbers, obeyed-parts, obeyed-held, obeyed-step, obeyed-kept}
use Rattle.desk_layout.specs.Numbers.{KeepsNumbers}
use Rattle.std.proofs.Common.{ℕ, Option, not, refl}
use Rattle.widget_model.specs.Forest.{IsWidgets}
use Rattle.desk_model.specs.Seen as seen
use Rattle.std.specs.Option.{option_map}
use Rattle.scene_model.specs.Scene.{Scene}
use Rattle.touch_rules.specs.Films.{unless_refused}
use Rattle.touch_rules.specs.Telling.{is_told, number_anew, number_named, command_numbers, where_shown}
use Rattle.desk_core.proofs.Views.{view-scene}
use Rattle.desk_core.proofs.TouchedLooks.{stepped-touched}
use Rattle.std.proofs.lemmas.Bool.{and_parts}
use Rattle.widget_model.specs.Fitting.{fits_table, fits_rules, has_slots, is_fit}
use Rattle.widget_model.proofs.Hanging.{all_at, all_from}
use Rattle.desk_core.proofs.desk.Desk.step.Goals as goal

pub returns-then-not-has-clause-step : goal.returns-then-not-has-clause-step
returns-then-not-has-clause-step c =
    ap (λ (d : Desk). (Refused NotConnected, d)) c.stay.ensures.put.desk
    ∙ step-absent c.args.self.now.desk c.args.client c.args.command.now c.args.payload.now false c.stay.ensures.visit.desk.held (sym c.if-not-has.ensures)

pub returns-then-not-has-clause-others : goal.returns-then-not-has-clause-others
returns-then-not-has-clause-others c = step-others _ _ c.args.client c.args.command.now c.args.payload.now _ _ c.stay.ensures.visit.desk (returns-then-not-has-clause-step c)

-- rows that fit have rules that fit
pub obey-answer-requires-clause-fits : goal.obey-answer-requires-clause-fits
obey-answer-requires-clause-fits c =
    let rows = rows_of c.self.inside.tree in
    all_from fits_rules rows
    (λ i row there.
    let rest = (and_parts (fits_table row) (fits_rules row && has_slots row) (all_at is_fit rows i row c.self.invariant.parts.tree.rows.fitting there)).1 in
    (and_parts (fits_rules row) (has_slots row) rest).0)

pub settle-requires-clause-valid : goal.settle-requires-clause-valid
settle-requires-clause-valid c =
    let i = c.self.inside in
    obeyed-tree i.shape i.pointer i.clients i.tree c.obey-answer.new.tree i.windows c.obey-answer.new.windows i.roster c.obey-answer.new.roster c.args.client c.args.command.now c.args.payload.now c.obey-answer.result.reply c.self.invariant c.obey-answer.ensures.did

pub let_go-requires-clause-parts : goal.let_go-requires-clause-parts
let_go-requires-clause-parts c =
    let i = c.self.inside in
    obeyed-parts i.shape i.pointer i.clients i.tree c.obey-answer.new.tree i.windows c.obey-answer.new.windows i.roster c.obey-answer.new.roster c.args.client c.args.command.now c.args.payload.now c.obey-answer.result.reply c.self.invariant c.obey-answer.ensures.did
    (c.obey-answer.result.changed && c.may_move-lays.result) c.settle.new.tree c.settle.ensures

pub let_go-requires-clause-live : goal.let_go-requires-clause-live
let_go-requires-clause-live c =
    let i = c.self.inside in
    obeyed-held i.shape i.pointer i.clients i.tree c.obey-answer.new.tree i.windows c.obey-answer.new.windows i.roster c.obey-answer.new.roster c.args.client c.args.command.now c.args.payload.now c.obey-answer.result.reply c.self.invariant c.obey-answer.ensures.did
    (c.obey-answer.result.changed && c.may_move-lays.result) c.settle.new.tree c.settle.ensures

pub invariant_of-self : goal.invariant_of-self
invariant_of-self c =
    let i = c.self.inside in
    obeyed-kept i.shape i.pointer i.clients i.tree c.obey-answer.new.tree i.windows c.obey-answer.new.windows i.roster c.obey-answer.new.roster c.args.client c.args.command.now c.args.payload.now c.obey-answer.result.reply c.self.invariant c.obey-answer.ensures.did
    (c.obey-answer.result.changed && c.may_move-lays.result) c.settle.new.tree c.settle.ensures
    (ap (λ (s : DeskView). is_connected s.desk c.args.client) c.self.view_is ∙ sym c.if-not-has.ensures)
    c.let_go.new.pointer (c.let_go.ensures.left i.shape c.obey-answer.new.roster i.clients) c.obey-answer.result.changed c.obey-answer.ensures.tells (ap (λ (b : Bool). c.obey-answer.result.changed && b) c.may_move-lays.ensures) c.requires.low c.let_go.ensures.live

pub returns-clause-step : goal.returns-clause-step
returns-clause-step c =
    let i = c.self.inside in
    obeyed-step i.shape i.pointer i.clients i.tree c.obey-answer.new.tree i.windows c.obey-answer.new.windows i.roster c.obey-answer.new.roster c.args.client c.args.command.now c.args.payload.now c.obey-answer.result.reply c.self.invariant c.obey-answer.ensures.did
    (c.obey-answer.result.changed && c.may_move-lays.result) c.settle.new.tree c.settle.ensures
    (ap (λ (s : DeskView). is_connected s.desk c.args.client) c.self.view_is ∙ sym c.if-not-has.ensures)
    c.let_go.new.pointer (c.let_go.ensures.left i.shape c.obey-answer.new.roster i.clients)
    ∙ ap (λ (s : DeskView). step s.desk c.args.client c.args.command.now c.args.payload.now (is_memory c.obey-answer.result.reply)) c.self.view_is

pub returns-clause-others : goal.returns-clause-others
returns-clause-others c =
    let D : DeskView → Type 0 = λ s. IsDesk s.desk in
    step-others _ _ c.args.client c.args.command.now c.args.payload.now _ _ (subst D c.self.view_is c.self.invariant.desk) (returns-clause-step c)

pub returns-clause-valid : goal.returns-clause-valid
returns-clause-valid c = (invariant_of-self c).desk

pub returns-clause-numbered : goal.returns-clause-numbered
returns-clause-numbered c =
    let i = c.self.inside in
    let N : DeskView → Type 0 = λ s. KeepsNumbers s.widgets.entries c.settle.new.tree.entries in
    subst N c.self.view_is
    (obeyed-numbers i.shape i.pointer i.clients i.tree c.obey-answer.new.tree i.windows c.obey-answer.new.windows i.roster c.obey-answer.new.roster c.args.client c.args.command.now c.args.payload.now c.obey-answer.result.reply c.self.invariant c.obey-answer.ensures.did
    (c.obey-answer.result.changed && c.may_move-lays.result) c.settle.new.tree c.settle.ensures)

pub returns-clause-changed : goal.returns-clause-changed
returns-clause-changed c =
    let i = c.self.inside in
    let keys = c.obey-answer.new.windows in
    let changed = c.obey-answer.result.changed in
    let T : DeskView → Type 0 = λ s. IsTrue changed ↔ ((rows_of c.settle.new.tree ≡ s.desk.rows) × (windows_at (nodes c.settle.new.tree.entries) keys ≡ s.desk.windows) → ⊥) in
    let L : Widgets → Type 0 = λ w. IsTrue changed ↔ ((rows_of w ≡ rows_of i.tree) × (windows_at (nodes w.entries) keys ≡ windows_at (nodes i.tree.entries) i.windows) → ⊥) in
    subst T c.self.view_is (subst L (sym c.settle.ensures.changed.same) c.obey-answer.ensures.tells)

pub keep_before-before-requires : goal.keep_before-before-requires
keep_before-before-requires c =
    let W : View → Type 0 = λ v. IsWidgets v.tree.now in
    record { widgets = subst W (sym c.view_of-shown.ensures) c.self.invariant.parts.tree }

pub tell_touched-requires : goal.tell_touched-requires
tell_touched-requires c =
    let W : View → Type 0 = λ v. IsWidgets v.tree.now in
    record { widgets = subst W (sym c.view_of-shows.ensures) c.settle.ensures.changed.valid }

pub returns-clause-touched : goal.returns-clause-touched
returns-clause-touched c =
    let i = c.self.inside in
    let client = c.args.client in
    let command = c.args.command.now in
    let payload = c.args.payload.now in
    let tree = c.settle.new.tree in
    let windows = c.obey-answer.new.windows in
    let pointer = c.let_go.new.pointer in
    let touched = c.tell_touched.new.touched.looks.items in
    let reply = c.obey-answer.result.reply in
    let looks = c.keep_before-before.result in
    let anew : Option ℕ = option_map (λ one. one.key) c.shown_anew-anew.result in
    let new : DeskView = record { desk = desk_of (stage_of i.shape c.obey-answer.new.roster i.clients tree pointer) tree windows; changed = c.obey-answer.result.changed; moved = c.has_moved-self-inside.result; widgets = tree; windows = windows; touched = touched } in
    let kept = invariant_of-self c in
    let W : DeskView → Type 0 = λ s. IsWidgets s.widgets in
    let R : DeskView → Type 0 = λ s. s.desk.rows ≡ rows_of s.widgets in
    let P : DeskView → Type 0 = λ s. pointer_seen s.widgets.entries i.pointer ≡ s.desk.pointer in
    let K : DeskView → Type 0 = λ s. AreWatched (command_numbers s.widgets client command i.pointer) (number_named s.widgets client command) s.widgets s.windows (seen.scene_of s.desk) looks in
    let V : View → Type 0 = λ v. AreWatched (command_numbers v.tree.now client command v.pointer.now) (number_named v.tree.now client command) v.tree.now v.stack.now (scene_of v) looks in
    let S : Scene → Type 0 = λ s. AreWatched (command_numbers i.tree client command i.pointer) (number_named i.tree client command) i.tree i.windows s looks in
    stepped-touched client c.args.self.now new i.pointer command payload (is_memory reply) looks anew reply
    (record {
      some = c.requires.low;
      before = subst W c.self.view_is c.self.invariant.parts.tree;
      after = kept.parts.tree;
      rows = subst R c.self.view_is refl;
      rows_after = refl;
      numbers = returns-clause-numbered c;
      others = returns-clause-others c;
    })
    (subst P c.self.view_is refl)
    (returns-clause-step c)
    (subst K c.self.view_is (subst S (view-scene i.shape i.roster i.clients i.pointer i.tree i.windows c.self.invariant.parts.windows) (subst V c.view_of-shown.ensures c.keep_before-before.ensures)))
    (c.shown_anew-anew.ensures
    ∙ ap (λ (v : View). where_shown v.tree.now v.stack.now (number_anew v.tree.now client command payload)) c.view_of-shown.ensures
    ∙ ap (λ (s : DeskView). where_shown s.widgets s.windows (number_anew s.widgets client command payload)) c.self.view_is)
    (λ id.
    c.tell_touched.ensures id
    ∙ ap (λ (v : View). is_told looks (unless_refused reply anew) v.tree.now v.stack.now (scene_of v) id) c.view_of-shows.ensures
    ∙ ap (λ (s : Scene). is_told looks (unless_refused reply anew) tree windows s id) (view-scene i.shape c.obey-answer.new.roster i.clients pointer tree windows kept.parts.windows))

-- what moves nothing leaves all in place
pub returns-clause-told : goal.returns-clause-told
returns-clause-told c =
    let reply = c.obey-answer.result.reply in
    c.has_moved-self-inside.ensures ∙ ap (λ (m : Bool). not (is_refused reply) && m) (c.moves-moves.ensures ∙ ap (λ (s : DeskView). moves s.desk.rows c.args.client c.args.command.now) c.self.view_is)

pub returns-clause-still : goal.returns-clause-still
returns-clause-still c = λ none.
    let i = c.self.inside in
    let D : DeskView → Type 0 = λ s. IsDesk s.desk in
    stepped-still c.args.self.now.desk (desk_of (stage_of i.shape c.obey-answer.new.roster i.clients c.settle.new.tree c.let_go.new.pointer) c.settle.new.tree c.obey-answer.new.windows) c.args.client c.args.command.now c.args.payload.now (is_memory c.obey-answer.result.reply) c.obey-answer.result.reply
    (subst D c.self.view_is c.self.invariant.desk)
    (returns-clause-valid c)
    (sym c.if-not-has.ensures)
    (returns-clause-step c)
    (sym (returns-clause-told c) ∙ none)

pub returns-in-Some-clause-told : goal.returns-in-Some-clause-told
returns-in-Some-clause-told c = c.stay-in-Some.ensures.visit.moved ∙ asked-unmoved c.args.self.now.desk.rows c.args.client c.args.command.now c.in-Some.reply c.in-Some.ensures.asks

pub returns-then-is_poll-clause-told : goal.returns-then-is_poll-clause-told
returns-then-is_poll-clause-told c = c.poll.ensures.visit.moved ∙ polled-unmoved c.args.self.now.desk.rows c.args.client c.args.command.now c.poll.result (sym c.if-is_poll.ensures)

-- a command that only asks leaves the desk as it was
pub returns-in-Some-clause-step : goal.returns-in-Some-clause-step
returns-in-Some-clause-step c =
    let desk = c.args.self.now.desk in
    ap (λ (d : Desk). (c.in-Some.reply, d)) c.stay-in-Some.ensures.put.desk
    ∙ step-obeyed desk c.args.client c.args.command.now c.args.payload.now (is_memory c.in-Some.reply) c.in-Some.reply desk desk (sym c.if-not-has.ensures)
    (c.in-Some.ensures.answers c.args.payload.now (is_memory c.in-Some.reply) desk refl) (sym c.stay-in-Some.ensures.visit.desk.held)

pub returns-in-Some-clause-others : goal.returns-in-Some-clause-others
returns-in-Some-clause-others c = step-others _ _ c.args.client c.args.command.now c.args.payload.now _ _ c.stay-in-Some.ensures.visit.desk (returns-in-Some-clause-step c)

-- `poll` changes the client's ring alone
pub returns-then-is_poll-clause-step : goal.returns-then-is_poll-clause-step
returns-then-is_poll-clause-step c =
    polled-step c.args.self.now.desk c.poll.new.self.desk c.args.client c.args.command.now c.args.payload.now (is_memory c.poll.result) c.poll.result c.poll.ensures.visit.desk.held (sym c.if-not-has.ensures) (sym c.if-is_poll.ensures) c.poll.ensures.reply c.poll.ensures.desk

pub returns-then-is_poll-clause-others : goal.returns-then-is_poll-clause-others
returns-then-is_poll-clause-others c = step-others _ _ c.args.client c.args.command.now c.args.payload.now _ _ c.poll.ensures.visit.desk (returns-then-is_poll-clause-step c)

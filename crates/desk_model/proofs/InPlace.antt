-- A command that isn't of placement, of windows or of a widget's coming or going leaves all widgets where they hang and
-- the windows as they are, and the values that an input gives leave all widgets where they hang.
use Rattle.std.proofs.Common.{◌≡◌, ℕ, ℤ, Bool, true, not, List, map, Option, Some, None, refl, sym, ap, ap₂, ◌∙◌}
use Rattle.std.proofs.lemmas.Bool.{true≢false}
use Rattle.std.specs.Prelude.{unsigned_abs}
use Rattle.std.specs.Option.{option_map}
use Rattle.kind_core.specs.declared.kinds.EventKind.{EventKind}
use Rattle.kind_core.specs.declared.shapes.Cell.{Cell}
use Rattle.cmd_words.specs.declared.commands.Command.{Command}
use Rattle.cmd_words.specs.declared.commands.Command.TheVariants.{New, Set, Get, Place, Lift, ColumnConfig, RowConfig, Link, Unlink, Bind, Unbind, OpenWindow, CloseWindow, TopWindow, Mode, Admit, Leave, SendFrame, DropWidget, Poll}
use Rattle.cmd_words.specs.declared.commands.ConfigOption.{ConfigOption}
use Rattle.cmd_words.specs.declared.replies.Reply.{Reply}
use Rattle.cmd_words.specs.declared.replies.Refusal.{Refusal}
use Rattle.cmd_words.specs.declared.replies.Refusal.TheVariants.{NotConnected}
use Rattle.vscreen_core.specs.FilmState.{blank_film}
use Rattle.vscreen_core.specs.Changes.{begun, settled}
use Rattle.scene_model.specs.declared.axis.Axis.{Axis}
use Rattle.scene_model.specs.declared.axis.Axis.TheVariants.{Across, Down}
use Rattle.widget_model.specs.Rows.{Row, with_link, with_binding, with_film}
use Rattle.widget_model.specs.Named.{with_named}
use Rattle.desk_model.specs.Desk.{Desk, is_connected}
use Rattle.desk_model.specs.Refusals.{when, outcome}
use Rattle.desk_model.specs.LetGo.{let_go}
use Rattle.desk_model.specs.AttrOptions.{with_attrs}
use Rattle.desk_model.specs.WidgetCommands.{set_refusal, set_effect, get_refusal, get_effect, step_set, step_get}
use Rattle.desk_model.specs.Tracks.{with_track, track_refusal, track_effect, step_track}
use Rattle.desk_model.specs.Links.{link_refusal, link_effect, unlink_refusal, unlink_effect, step_link, step_unlink}
use Rattle.desk_model.specs.Bindings.{bind_refusal, bind_effect, step_bind}
use Rattle.desk_model.specs.Screens.{with_film_changed, framed, mode_refusal, mode_effect, step_mode, admit_refusal, admit_effect, step_admit, leave_refusal, leave_effect, step_leave, frame_refusal, frame_effect, step_frame}
use Rattle.desk_model.specs.Polling.{step_poll}
use Rattle.desk_model.specs.Commands.{row_of, step}
use Rattle.desk_model.specs.InputEffects.{Effects}
use Rattle.desk_model.specs.InPlace.{hung_of, leaves_hung, HangsAlike, CommandsLeaveHung, InputsLeaveHung}
use Rattle.desk_model.proofs.FedRows.{fed_row, fed_row-same, rows_after-map}
use Rattle.desk_model.proofs.HungRows.{LeavesHung, LeavesHung-attrs, LeavesHung-track, hung-map, hung-named}

alike-outcome : (desk : Desk) (refusal : Option Refusal) (effect : Reply × Desk) → HangsAlike desk effect.1 → HangsAlike desk (outcome desk refusal effect).1
alike-outcome desk None effect alike = alike
alike-outcome desk (Some refusal) effect alike = record { hung = refl; windows = refl }

-- a command that changes the named row alone
alike-named : (desk : Desk) (client : ℕ) (name : List ℕ) (change : Row → Row) (refusal : Option Refusal) (effect : Reply × Desk)
    → LeavesHung change → effect.1.rows ≡ with_named client name change desk.rows → effect.1.windows ≡ desk.windows → HangsAlike desk (outcome desk refusal effect).1
alike-named desk client name change refusal effect leaves rows windows =
    alike-outcome desk refusal effect (record { hung = ap (map hung_of) rows ∙ hung-named client name change desk.rows leaves; windows = windows })

alike-track : (axis : Axis) (desk : Desk) (client : ℕ) (name : List ℕ) (index : ℤ) (options : List (ConfigOption × ℤ)) → HangsAlike desk (step_track axis desk client name index options).1
unfolding step_track
alike-track axis desk client name index options =
    alike-named desk client name (with_track axis (unsigned_abs index) options) (track_refusal desk client name index options) (track_effect axis desk client name index options)
    (LeavesHung-track axis (unsigned_abs index) options) refl refl

alike-bind : (desk : Desk) (client : ℕ) (name : List ℕ) (event : EventKind) (tag : Option (List ℕ)) → HangsAlike desk (step_bind desk client name event tag).1
unfolding step_bind
alike-bind desk client name event tag = alike-named desk client name (with_binding event tag) (bind_refusal desk client name event) (bind_effect desk client name event tag) (λ row. refl) refl refl

alike-row : (desk : Desk) (client : ℕ) (command : Command) (payload : List ℕ) (short : Bool) → leaves_hung command ≡ true → HangsAlike desk (row_of command payload desk client short).1
unfolding step_set step_get step_link step_unlink step_mode step_admit step_leave step_frame step_poll
alike-row desk client (New name kind) payload short leaves = absurd (true≢false (sym leaves))
alike-row desk client (Set name options) payload short leaves =
    alike-named desk client name (with_attrs options) (set_refusal desk client name options) (set_effect desk client name options) (LeavesHung-attrs options) refl refl
alike-row desk client (Get name attr) payload short leaves = alike-outcome desk (get_refusal desk client name attr) (get_effect desk client name attr) (record { hung = refl; windows = refl })
alike-row desk client (Place parent child options) payload short leaves = absurd (true≢false (sym leaves))
alike-row desk client (Lift parent child) payload short leaves = absurd (true≢false (sym leaves))
alike-row desk client (ColumnConfig name index options) payload short leaves = alike-track Across desk client name index options
alike-row desk client (RowConfig name index options) payload short leaves = alike-track Down desk client name index options
alike-row desk client (Link name variable) payload short leaves =
    alike-named desk client name (with_link (Some variable)) (link_refusal desk client name variable) (link_effect desk client name variable) (λ row. refl) refl refl
alike-row desk client (Unlink name) payload short leaves = alike-named desk client name (with_link None) (unlink_refusal desk client name) (unlink_effect desk client name) (λ row. refl) refl refl
alike-row desk client (Bind name event tag) payload short leaves = alike-bind desk client name event (Some tag)
alike-row desk client (Unbind name event) payload short leaves = alike-bind desk client name event None
alike-row desk client (OpenWindow name) payload short leaves = absurd (true≢false (sym leaves))
alike-row desk client (CloseWindow name) payload short leaves = absurd (true≢false (sym leaves))
alike-row desk client (TopWindow name) payload short leaves = absurd (true≢false (sym leaves))
alike-row desk client (Mode name w h) payload short leaves =
    alike-named desk client name (with_film (Some (blank_film (unsigned_abs w) (unsigned_abs h)))) (mode_refusal desk client name w h short) (mode_effect desk client name w h) (λ row. refl) refl refl
alike-row desk client (Admit name period) payload short leaves =
    alike-named desk client name (with_film_changed (λ film. begun film (unsigned_abs period))) (admit_refusal desk client name period) (admit_effect desk client name period) (λ row. refl) refl refl
alike-row desk client (Leave name) payload short leaves = alike-named desk client name (with_film_changed settled) (leave_refusal desk client name) (leave_effect desk client name) (λ row. refl) refl refl
alike-row desk client (SendFrame name size) payload short leaves =
    alike-named desk client name (with_film_changed (framed payload)) (frame_refusal desk client name payload) (frame_effect desk client name payload) (λ row. refl) refl refl
alike-row desk client (DropWidget name) payload short leaves = absurd (true≢false (sym leaves))
alike-row desk client Poll payload short leaves = record { hung = refl; windows = refl }

pub commands_leave_hung : CommandsLeaveHung
unfolding step let_go
commands_leave_hung desk client command payload short leaves =
    let alike =
    alike-outcome desk (when (not (is_connected desk client)) NotConnected) (row_of command payload desk client short) (alike-row desk client command payload short leaves) in
    record { hung = alike.hung; windows = alike.windows }

LeavesHung-fed : (effects : Effects) → LeavesHung (fed_row effects)
LeavesHung-fed effects row =
    let same = fed_row-same effects row in
    ap₂ (λ (key : ℕ × List ℕ) (attached : Option (List ℕ × Cell)). (key, option_map (λ (held : List ℕ × Cell). held.0) attached))
    (ap₂ (λ (client : ℕ) (name : List ℕ). (client, name)) same.client same.name) same.attached

pub inputs_leave_hung : InputsLeaveHung
inputs_leave_hung effects rows = ap (map hung_of) (rows_after-map effects rows) ∙ hung-map (fed_row effects) rows (LeavesHung-fed effects)

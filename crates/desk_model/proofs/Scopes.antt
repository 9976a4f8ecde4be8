-- A command keeps to the widget that it names, and an input to the widgets to which it gives values; the pointer holds
-- or lets go of no other widgets than their scope has.
use Rattle.std.proofs.Common.{◌≡◌, ℕ, ℤ, Bool, false, not, List, [], ◌∷◌, ◌++◌, Option, Some, None, refl, sym, ap, ◌∙◌}
use Rattle.std.specs.Prelude.{unsigned_abs}
use Rattle.std.specs.Option.{option_map, option_map_or}
use Rattle.kind_core.specs.declared.kinds.Kind.{Kind}
use Rattle.kind_core.specs.declared.kinds.Attr.TheVariants.{Value}
use Rattle.kind_core.specs.declared.kinds.EventKind.{EventKind}
use Rattle.cmd_words.specs.declared.commands.Command.{Command}
use Rattle.cmd_words.specs.declared.commands.Command.TheVariants.{New, Set, Get, Place, Lift, ColumnConfig, RowConfig, Link, Unlink, Bind, Unbind, OpenWindow, CloseWindow, TopWindow, Mode, Admit, Leave, SendFrame, DropWidget, Poll}
use Rattle.cmd_words.specs.declared.commands.ConfigOption.{ConfigOption}
use Rattle.cmd_words.specs.declared.replies.Reply.{Reply}
use Rattle.cmd_words.specs.declared.replies.Refusal.{Refusal}
use Rattle.cmd_words.specs.declared.replies.Refusal.TheVariants.{NotConnected}
use Rattle.vscreen_core.specs.FilmState.{blank_film}
use Rattle.vscreen_core.specs.Changes.{begun, settled}
use Rattle.scene_model.specs.declared.axis.Axis.{Axis}
use Rattle.scene_model.specs.declared.axis.Axis.TheVariants.{Across, Down}
use Rattle.scene_model.specs.Values.{number_of}
use Rattle.scene_model.specs.LookOf.{grabs}
use Rattle.widget_model.specs.Rows.{Row, new_row, with_link, with_binding, with_film, with_attached}
use Rattle.widget_model.specs.Named.{with_named}
use Rattle.widget_model.specs.Keys.{same_key, row_of}
use Rattle.widget_model.specs.Pointer.{Pointer}
use Rattle.widget_model.proofs.Hanging.{LeavesNames}
use Rattle.desk_model.specs.Desk.{Desk, is_connected}
use Rattle.desk_model.specs.Seen.{scene_of}
use Rattle.desk_model.specs.Refusals.{when, outcome}
use Rattle.desk_model.specs.LetGo.{let_go, is_in_window, grab_left, focus_left}
use Rattle.desk_model.specs.AttrOptions.{with_attrs}
use Rattle.desk_model.specs.PlaceOptions.{cell_given}
use Rattle.desk_model.specs.WidgetCommands.{new_refusal, new_effect, set_refusal, set_effect, get_refusal, get_effect, drop_refusal, drop_effect, step_new, step_set, step_get, step_drop}
use Rattle.desk_model.specs.Placement.{place_refusal, place_effect, lift_refusal, lift_effect, step_place, step_lift}
use Rattle.desk_model.specs.Tracks.{with_track, track_refusal, track_effect, step_track}
use Rattle.desk_model.specs.Links.{link_refusal, link_effect, unlink_refusal, unlink_effect, step_link, step_unlink}
use Rattle.desk_model.specs.Bindings.{bind_refusal, bind_effect, step_bind}
use Rattle.desk_model.specs.Windows.{open_refusal, open_effect, step_open, unless_open, close_effect, step_close, top_effect, step_top}
use Rattle.desk_model.specs.Screens.{with_film_changed, framed, mode_refusal, mode_effect, step_mode, admit_refusal, admit_effect, step_admit, leave_refusal, leave_effect, step_leave, frame_refusal, frame_effect, step_frame}
use Rattle.desk_model.specs.Polling.{step_poll}
use Rattle.desk_model.specs.Commands.{row_of as command_row, step}
use Rattle.desk_model.specs.InputEffects.{Effects}
use Rattle.desk_model.specs.Feeding.{grabbed, effects_on, carried_out, step_feed}
use Rattle.desk_model.specs.Scope.{StaysBut, is_among, keys_in, held_keys, named_in, effects_scope, CommandsKeepToTheirScope, InputsKeepToTheirScope}
use Rattle.desk_model.proofs.HungRows.{LeavesNames-hung, LeavesHung-attrs, LeavesHung-track}
use Rattle.desk_model.proofs.ScopedRows.{is_among-parts, row_of-named, row_of-push, row_of-without, row_of-fed, value_of-fed, grabs-none, grabs-left, focus-none, focus-left}

-- what a command keeps before its event ends: the pointer, and all rows but the named ones
record KeepsBut (named : List (ℕ × List ℕ)) (old new : Desk) : Type 0 where
  rows : (key : ℕ × List ℕ) → is_among named key ≡ false → row_of new.rows key ≡ row_of old.rows key
  pointer : new.pointer ≡ old.pointer

keeps-outcome : (named : List (ℕ × List ℕ)) (desk : Desk) (refusal : Option Refusal) (effect : Reply × Desk) → KeepsBut named desk effect.1 → KeepsBut named desk (outcome desk refusal effect).1
keeps-outcome named desk None effect keeps = keeps
keeps-outcome named desk (Some refusal) effect keeps = record { rows = λ key apart. refl; pointer = refl }

-- a command that leaves all rows
keeps-all : (named : List (ℕ × List ℕ)) (desk : Desk) (refusal : Option Refusal) (effect : Reply × Desk) → effect.1.rows ≡ desk.rows → effect.1.pointer ≡ desk.pointer → KeepsBut named desk (outcome desk refusal effect).1
keeps-all named desk refusal effect rows pointer = keeps-outcome named desk refusal effect (record { rows = λ key apart. ap (λ (rs : List Row). row_of rs key) rows; pointer = pointer })

-- a command that changes the named row
keeps-named : (desk : Desk) (client : ℕ) (name : List ℕ) (change : Row → Row) (refusal : Option Refusal) (effect : Reply × Desk)
    → LeavesNames change → effect.1.rows ≡ with_named client name change desk.rows → effect.1.pointer ≡ desk.pointer → KeepsBut ((client, name) ∷ []) desk (outcome desk refusal effect).1
keeps-named desk client name change refusal effect leaves rows pointer =
    keeps-outcome ((client, name) ∷ []) desk refusal effect
    (record { rows = λ key apart. ap (λ (rs : List Row). row_of rs key) rows ∙ row_of-named desk.rows client name change key leaves apart; pointer = pointer })

keeps-new : (desk : Desk) (client : ℕ) (name : List ℕ) (kind : Kind) (short : Bool) → KeepsBut ((client, name) ∷ []) desk (step_new desk client name kind short).1
unfolding step_new new_row
keeps-new desk client name kind short =
    keeps-outcome ((client, name) ∷ []) desk (new_refusal desk client name kind short) (new_effect desk client name kind)
    (record { rows = λ key apart. row_of-push desk.rows (new_row client name kind) key apart; pointer = refl })

keeps-track : (axis : Axis) (desk : Desk) (client : ℕ) (name : List ℕ) (index : ℤ) (options : List (ConfigOption × ℤ)) → KeepsBut ((client, name) ∷ []) desk (step_track axis desk client name index options).1
unfolding step_track
keeps-track axis desk client name index options =
    keeps-named desk client name (with_track axis (unsigned_abs index) options) (track_refusal desk client name index options) (track_effect axis desk client name index options)
    (LeavesNames-hung (with_track axis (unsigned_abs index) options) (LeavesHung-track axis (unsigned_abs index) options)) refl refl

keeps-bind : (desk : Desk) (client : ℕ) (name : List ℕ) (event : EventKind) (tag : Option (List ℕ)) → KeepsBut ((client, name) ∷ []) desk (step_bind desk client name event tag).1
unfolding step_bind
keeps-bind desk client name event tag =
    keeps-named desk client name (with_binding event tag) (bind_refusal desk client name event) (bind_effect desk client name event tag) (record { client = λ row. refl; name = λ row. refl }) refl refl

-- each command's row
keeps-row : (desk : Desk) (client : ℕ) (command : Command) (payload : List ℕ) (short : Bool)
    → KeepsBut (keys_in (option_map (λ name. (client, name)) (named_in command))) desk (command_row command payload desk client short).1
unfolding step_set step_get step_drop step_place step_lift step_link step_unlink step_open step_close step_top step_mode step_admit step_leave step_frame step_poll
keeps-row desk client (New name kind) payload short = keeps-new desk client name kind short
keeps-row desk client (Set name options) payload short =
    keeps-named desk client name (with_attrs options) (set_refusal desk client name options) (set_effect desk client name options) (LeavesNames-hung (with_attrs options) (LeavesHung-attrs options)) refl refl
keeps-row desk client (Get name attr) payload short = keeps-all [] desk (get_refusal desk client name attr) (get_effect desk client name attr) refl refl
keeps-row desk client (Place parent child options) payload short =
    keeps-named desk client child (with_attached (Some (parent, cell_given options))) (place_refusal desk client parent child options) (place_effect desk client parent child options)
    (record { client = λ row. refl; name = λ row. refl }) refl refl
keeps-row desk client (Lift parent child) payload short =
    keeps-named desk client child (with_attached None) (lift_refusal desk client parent child) (lift_effect desk client child) (record { client = λ row. refl; name = λ row. refl }) refl refl
keeps-row desk client (ColumnConfig name index options) payload short = keeps-track Across desk client name index options
keeps-row desk client (RowConfig name index options) payload short = keeps-track Down desk client name index options
keeps-row desk client (Link name variable) payload short =
    keeps-named desk client name (with_link (Some variable)) (link_refusal desk client name variable) (link_effect desk client name variable) (record { client = λ row. refl; name = λ row. refl }) refl refl
keeps-row desk client (Unlink name) payload short =
    keeps-named desk client name (with_link None) (unlink_refusal desk client name) (unlink_effect desk client name) (record { client = λ row. refl; name = λ row. refl }) refl refl
keeps-row desk client (Bind name event tag) payload short = keeps-bind desk client name event (Some tag)
keeps-row desk client (Unbind name event) payload short = keeps-bind desk client name event None
keeps-row desk client (OpenWindow name) payload short = keeps-all [] desk (open_refusal desk client name) (open_effect desk client name) refl refl
keeps-row desk client (CloseWindow name) payload short = keeps-all [] desk (unless_open desk client name) (close_effect desk client name) refl refl
keeps-row desk client (TopWindow name) payload short = keeps-all [] desk (unless_open desk client name) (top_effect desk client name) refl refl
keeps-row desk client (Mode name w h) payload short =
    keeps-named desk client name (with_film (Some (blank_film (unsigned_abs w) (unsigned_abs h)))) (mode_refusal desk client name w h short) (mode_effect desk client name w h)
    (record { client = λ row. refl; name = λ row. refl }) refl refl
keeps-row desk client (Admit name period) payload short =
    keeps-named desk client name (with_film_changed (λ film. begun film (unsigned_abs period))) (admit_refusal desk client name period) (admit_effect desk client name period)
    (record { client = λ row. refl; name = λ row. refl }) refl refl
keeps-row desk client (Leave name) payload short =
    keeps-named desk client name (with_film_changed settled) (leave_refusal desk client name) (leave_effect desk client name) (record { client = λ row. refl; name = λ row. refl }) refl refl
keeps-row desk client (SendFrame name size) payload short =
    keeps-named desk client name (with_film_changed (framed payload)) (frame_refusal desk client name payload) (frame_effect desk client name payload) (record { client = λ row. refl; name = λ row. refl }) refl refl
keeps-row desk client (DropWidget name) payload short =
    keeps-outcome ((client, name) ∷ []) desk (drop_refusal desk client name) (drop_effect desk client name)
    (record { rows = λ key apart. row_of-without desk.rows client name key apart; pointer = refl })
keeps-row desk client Poll payload short = record { rows = λ key apart. refl; pointer = refl }

-- Two pointers hold all widgets alike but these.
record HoldsAlike (held : List (ℕ × List ℕ)) (old new : Pointer) : Type 0 where
  grab : (key : ℕ × List ℕ) → is_among held key ≡ false → grabs new.grab key ≡ grabs old.grab key
  focus : (key : ℕ × List ℕ) → is_among held key ≡ false → option_map_or (same_key key) new.focus false ≡ option_map_or (same_key key) old.focus false

-- what a pointer holds after it let go of some widgets
abbrev left : (ℕ × List ℕ → Bool) → Pointer → Pointer
left stays pointer = record pointer { grab = grab_left stays pointer.grab; focus = focus_left stays pointer.focus }

-- Where both hold none but these, so they do after the later one let go of some.
holds-left : (held : List (ℕ × List ℕ)) (stays : ℕ × List ℕ → Bool) (old new : Pointer)
    → ((key : ℕ × List ℕ) → is_among held key ≡ false → (is_among (held_keys old) key ≡ false) × (is_among (held_keys new) key ≡ false)) → HoldsAlike held old (left stays new)
holds-left held stays old new within =
    record {
      grab = λ key apart.
          let out = within key apart in
          grabs-left stays new.grab key (is_among-parts (keys_in (grabbed new.grab)) (keys_in new.focus) key out.1).0
          ∙ sym (grabs-none old.grab key (is_among-parts (keys_in (grabbed old.grab)) (keys_in old.focus) key out.0).0);
      focus = λ key apart.
          let out = within key apart in
          focus-left stays new.focus key (is_among-parts (keys_in (grabbed new.grab)) (keys_in new.focus) key out.1).1
          ∙ sym (focus-none old.focus key (is_among-parts (keys_in (grabbed old.grab)) (keys_in old.focus) key out.0).1);
    }

-- what a command kept, after its event ended
stays-ended : (named : List (ℕ × List ℕ)) (desk done : Desk) → KeepsBut named desk done → StaysBut (record { rows = named; values = named; held = held_keys desk.pointer }) (scene_of desk) (scene_of (let_go done))
unfolding let_go
stays-ended named desk done keeps =
    let holds =
    holds-left (held_keys desk.pointer) (is_in_window done) desk.pointer done.pointer
    (λ key apart. (apart, ap (λ (pointer : Pointer). is_among (held_keys pointer) key) keeps.pointer ∙ apart)) in
    record {
      rows = keeps.rows;
      values = λ key apart. ap (option_map (number_of Value)) (keeps.rows key apart);
      grab = holds.grab;
      focus = holds.focus;
    }

pub commands_keep_to_their_scope : CommandsKeepToTheirScope
unfolding step
commands_keep_to_their_scope desk client command payload short =
    stays-ended named desk (outcome desk refusal (command_row command payload desk client short)).1
    (keeps-outcome named desk refusal (command_row command payload desk client short) (keeps-row desk client command payload short))
  where
    named : List (ℕ × List ℕ)
    named = keys_in (option_map (λ name. (client, name)) (named_in command))

    refusal : Option Refusal
    refusal = when (not (is_connected desk client)) NotConnected

stays-carried : (effects : Effects) (desk : Desk) → StaysBut (effects_scope desk.pointer effects) (scene_of desk) (scene_of (let_go (carried_out effects desk)))
unfolding let_go carried_out
stays-carried effects desk =
    let holds =
    holds-left (held_keys desk.pointer ++ held_keys effects.pointer) (is_in_window (carried_out effects desk)) desk.pointer effects.pointer
    (λ key apart. is_among-parts (held_keys desk.pointer) (held_keys effects.pointer) key apart) in
    record {
      rows = λ key apart. row_of-fed effects desk.rows key apart;
      values = λ key apart. value_of-fed effects desk.rows key apart;
      grab = holds.grab;
      focus = holds.focus;
    }

pub inputs_keep_to_their_scope : InputsKeepToTheirScope
unfolding step_feed
inputs_keep_to_their_scope desk input = stays-carried (effects_on desk input) desk

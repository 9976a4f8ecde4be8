-- What a client does leaves the others' part of the desk, and what it is answered depends on its own part alone.
use Rattle.std.proofs.Common.{◌≡◌, ℕ, ℤ, Bool, true, false, cond, not, nat_eq, is_none, List, [], ◌∷◌, ◌++◌, Option, Some, None, ◌⊎◌, inl, inr, refl, sym, ap, ◌∙◌, subst}
use Rattle.std.proofs.lemmas.Bool.{eqb-true}
use Rattle.std.specs.Prelude.{unsigned_abs, IfSome}
use Rattle.std.specs.Str.{bytes_eq}
use Rattle.kind_core.specs.declared.kinds.EventKind.{EventKind}
use Rattle.cmd_words.specs.declared.commands.ConfigOption.{ConfigOption}
use Rattle.cmd_words.specs.declared.commands.Command.{Command}
use Rattle.cmd_words.specs.declared.commands.Command.TheVariants.{New, Set, Get, Place, Lift, ColumnConfig, RowConfig, Link, Unlink, Bind, Unbind, OpenWindow, CloseWindow, TopWindow, Mode, Admit, Leave, SendFrame, DropWidget, Poll}
use Rattle.cmd_words.specs.declared.replies.Reply.{Reply}
use Rattle.cmd_words.specs.declared.replies.Reply.TheVariants.{Done}
use Rattle.cmd_words.specs.declared.replies.Refusal.{Refusal}
use Rattle.cmd_words.specs.declared.replies.Refusal.TheVariants.{Memory, Full, NotConnected, Connected}
use Rattle.widget_model.specs.Rows.{Row, new_row, with_attached, with_link, with_binding, with_film}
use Rattle.widget_model.specs.Named.{rows_of_others, with_named, without_named}
use Rattle.widget_model.specs.Pointer.{Pointer, Grab, no_grab, on_widget, drags}
use Rattle.desk_model.specs.Desk.{Desk, Admission, Ring, is_connected, is_open}
use Rattle.desk_model.specs.Refusals.{when, first_refusal, outcome}
use Rattle.desk_model.specs.AttrOptions.{with_attrs}
use Rattle.desk_model.specs.PlaceOptions.{cell_given}
use Rattle.desk_model.specs.WidgetCommands.{new_refusal, set_refusal, get_refusal, get_effect, drop_refusal, new_effect, set_effect, drop_effect, step_new, step_set, step_get, step_drop}
use Rattle.desk_model.specs.Placement.{place_refusal, place_effect, lift_refusal, lift_effect, step_place, step_lift}
use Rattle.desk_model.specs.Tracks.{with_track, track_refusal, track_effect, step_track}
use Rattle.desk_model.specs.Links.{link_refusal, link_effect, unlink_refusal, unlink_effect, step_link, step_unlink}
use Rattle.desk_model.specs.Bindings.{bind_refusal, bind_effect, step_bind}
use Rattle.desk_model.specs.Windows.{open_refusal, open_effect, step_open, unless_open, close_effect, step_close, top_effect, step_top, without_window, with_top}
use Rattle.scene_model.specs.declared.axis.Axis.{Axis}
use Rattle.scene_model.specs.declared.axis.Axis.TheVariants.{Across, Down}
use Rattle.vscreen_core.specs.FilmState.{blank_film}
use Rattle.vscreen_core.specs.Changes.{begun, settled}
use Rattle.bind_core.specs.Ring.{new_ring}
use Rattle.bind_core.specs.Polling.{after_poll}
use Rattle.desk_model.specs.Screens.{other_admissions, with_film_changed, framed, admission_of, mode_refusal, mode_effect, step_mode, admit_refusal, admit_effect, step_admit, leave_refusal, leave_effect, step_leave, frame_refusal, frame_effect, step_frame}
use Rattle.desk_model.specs.Polling.{with_ring, step_poll}
use Rattle.desk_model.specs.Clients.{step_connect, step_hello, step_bye, with_client, without_client, free_client, hello_effect}
use Rattle.desk_model.specs.Commands.{row_of, step}
use Rattle.desk_model.specs.LetGo.{is_in_window, grab_left, focus_left, let_go}
use Rattle.widget_model.specs.Trees.{root_of, most_levels}
use Rattle.desk_model.specs.OwnPart.{own_windows, windows_of_others, IsGrabOf, IsFocusOf, LeavesPointer, LeavesOthers, admissions_of_others, CommandsLeaveOthers, ConnectsLeaveOthers, HellosLeaveOthers, ByesLeaveOthers, AnswersDependOnOwnPart, ConnectsDependOnOwnPart, ByesDependOnOwnPart}
use Rattle.widget_model.specs.Named.{own_rows}
use Rattle.desk_model.proofs.OthersRows.{filter-filter, filter-within, rows_of_others-with_named, rows_of_others-without_named, rows_of_others-push, client-new_row, client-with_attrs, windows_of_others-cons, windows_of_others-without, list_any-push_other}
use Rattle.widget_model.proofs.OwnRows.{list_any-agree, root_in-agree}
use Rattle.widget_model.proofs.LeftRows.{list_any-without_other}
use Rattle.desk_model.proofs.OthersAdmissions.{rings_of_others, admissions_of_others-without, admissions_of_others-push, rings_of_others-push, rings_of_others-with_ring}
use Rattle.desk_model.proofs.OwnAnswers.{answer-outcome, answer-row}

-- What is not the client's, and the whole pointer, is as it was: before a step's ending.
pub record LeavesApart (client : ℕ) (old new : Desk) : Type 0 where
  pub shape : new.shape ≡ old.shape
  pub clients : (other : ℕ) → nat_eq client other ≡ false → is_connected new other ≡ is_connected old other
  pub rows : rows_of_others client new.rows ≡ rows_of_others client old.rows
  pub windows : windows_of_others client new.windows ≡ windows_of_others client old.windows
  pub pointer : new.pointer ≡ old.pointer
  pub roster : admissions_of_others client new.roster ≡ admissions_of_others client old.roster
  pub rings : rings_of_others client new.rings ≡ rings_of_others client old.rings

-- a change of the rows alone
LeavesApart-rows : (client : ℕ) (desk : Desk) (rows : List Row) → rows_of_others client rows ≡ rows_of_others client desk.rows → LeavesApart client desk (record desk { rows = rows })
LeavesApart-rows client desk rows kept = record {
  shape = refl;
  clients = λ other differ. refl;
  rows = kept;
  windows = refl;
  pointer = refl;
  roster = refl;
  rings = refl;
}

-- other windows, where the others' are the same
LeavesApart-windows : (client : ℕ) (desk : Desk) (windows : List (ℕ × List ℕ)) → windows_of_others client windows ≡ windows_of_others client desk.windows → LeavesApart client desk (record desk { windows = windows })
LeavesApart-windows client desk windows same = record { shape = refl; clients = λ other differ. refl; rows = refl; windows = same; pointer = refl; roster = refl; rings = refl }

-- a change of the rows and of the roster
LeavesApart-roster : (client : ℕ) (desk : Desk) (rows : List Row) (roster : List Admission) → rows_of_others client rows ≡ rows_of_others client desk.rows → admissions_of_others client roster ≡ admissions_of_others client desk.roster → LeavesApart client desk (record desk { rows = rows; roster = roster })
LeavesApart-roster client desk rows roster kept same = record {
  shape = refl;
  clients = λ other differ. refl;
  rows = kept;
  windows = refl;
  pointer = refl;
  roster = same;
  rings = refl;
}

-- an event of the client's ring is told
LeavesApart-poll : (client : ℕ) (desk : Desk) → LeavesApart client desk (record desk { rings = with_ring client after_poll desk.rings })
LeavesApart-poll client desk = record {
  shape = refl;
  clients = λ other differ. refl;
  rows = refl;
  windows = refl;
  pointer = refl;
  roster = refl;
  rings = rings_of_others-with_ring client after_poll desk.rings;
}

-- a desk that stays
pub LeavesApart-same : (client : ℕ) (desk : Desk) → LeavesApart client desk desk
LeavesApart-same client desk = LeavesApart-rows client desk desk.rows refl

-- a refused command leaves the whole desk
LeavesApart-outcome : (client : ℕ) (desk : Desk) (refusal : Option Refusal) (effect : Reply × Desk) → LeavesApart client desk effect.1 → LeavesApart client desk (outcome desk refusal effect).1
LeavesApart-outcome client desk None effect leaves = leaves
LeavesApart-outcome client desk (Some refusal) effect leaves = LeavesApart-same client desk

-- a change of one row that leaves its client
LeavesApart-with_named : (client : ℕ) (name : List ℕ) (change : Row → Row) (desk : Desk) → ((row : Row) → (change row).client ≡ row.client) → LeavesApart client desk (record desk { rows = with_named client name change desk.rows })
LeavesApart-with_named client name change desk same = LeavesApart-rows client desk (with_named client name change desk.rows) (rows_of_others-with_named client name change desk.rows same)

-- ruling a track, and binding an event
LeavesApart-track : (axis : Axis) (desk : Desk) (client : ℕ) (name : List ℕ) (index : ℤ) (options : List (ConfigOption × ℤ)) → LeavesApart client desk (step_track axis desk client name index options).1
unfolding step_track
LeavesApart-track axis desk client name index options =
    LeavesApart-outcome client desk (track_refusal desk client name index options) (track_effect axis desk client name index options) (LeavesApart-with_named client name (with_track axis (unsigned_abs index) options) desk (by axis))
  where
    by : (axis : Axis) (row : Row) → (with_track axis (unsigned_abs index) options row).client ≡ row.client
    by Across row = refl
    by Down row = refl

LeavesApart-bind : (desk : Desk) (client : ℕ) (name : List ℕ) (event : EventKind) (tag : Option (List ℕ)) → LeavesApart client desk (step_bind desk client name event tag).1
unfolding step_bind
LeavesApart-bind desk client name event tag =
    LeavesApart-outcome client desk (bind_refusal desk client name event) (bind_effect desk client name event tag) (LeavesApart-with_named client name (with_binding event tag) desk (λ row. refl))

-- each row
LeavesApart-row : (desk : Desk) (client : ℕ) (command : Command) (payload : List ℕ) (short : Bool) → LeavesApart client desk (row_of command payload desk client short).1
unfolding step_new step_set step_get step_drop step_place step_lift step_link step_unlink step_open step_close step_top step_mode step_admit step_leave step_frame step_poll
LeavesApart-row desk client (New name kind) payload short =
    LeavesApart-outcome client desk (new_refusal desk client name kind short) (new_effect desk client name kind)
    (LeavesApart-rows client desk (desk.rows ++ new_row client name kind ∷ []) (rows_of_others-push client desk.rows (new_row client name kind) (client-new_row client name kind)))
LeavesApart-row desk client (Set name options) payload short =
    LeavesApart-outcome client desk (set_refusal desk client name options) (set_effect desk client name options) (LeavesApart-with_named client name (with_attrs options) desk (client-with_attrs options))
LeavesApart-row desk client (Get name attr) payload short = LeavesApart-outcome client desk (get_refusal desk client name attr) (get_effect desk client name attr) (LeavesApart-same client desk)
LeavesApart-row desk client (Place parent child options) payload short =
    LeavesApart-outcome client desk (place_refusal desk client parent child options) (place_effect desk client parent child options)
    (LeavesApart-with_named client child (with_attached (Some (parent, cell_given options))) desk (λ row. refl))
LeavesApart-row desk client (Lift parent child) payload short =
    LeavesApart-outcome client desk (lift_refusal desk client parent child) (lift_effect desk client child) (LeavesApart-with_named client child (with_attached None) desk (λ row. refl))
LeavesApart-row desk client (ColumnConfig name index options) payload short = LeavesApart-track Across desk client name index options
LeavesApart-row desk client (RowConfig name index options) payload short = LeavesApart-track Down desk client name index options
LeavesApart-row desk client (Link name variable) payload short =
    LeavesApart-outcome client desk (link_refusal desk client name variable) (link_effect desk client name variable) (LeavesApart-with_named client name (with_link (Some variable)) desk (λ row. refl))
LeavesApart-row desk client (Unlink name) payload short =
    LeavesApart-outcome client desk (unlink_refusal desk client name) (unlink_effect desk client name) (LeavesApart-with_named client name (with_link None) desk (λ row. refl))
LeavesApart-row desk client (Bind name event tag) payload short = LeavesApart-bind desk client name event (Some tag)
LeavesApart-row desk client (Unbind name event) payload short = LeavesApart-bind desk client name event None
LeavesApart-row desk client (OpenWindow name) payload short =
    LeavesApart-outcome client desk (open_refusal desk client name) (open_effect desk client name)
    (LeavesApart-windows client desk ((client, name) ∷ desk.windows) (windows_of_others-cons client name desk.windows))
LeavesApart-row desk client (CloseWindow name) payload short =
    LeavesApart-outcome client desk (unless_open desk client name) (close_effect desk client name)
    (LeavesApart-windows client desk (without_window client name desk.windows) (windows_of_others-without client name desk.windows))
LeavesApart-row desk client (TopWindow name) payload short =
    LeavesApart-outcome client desk (unless_open desk client name) (top_effect desk client name)
    (LeavesApart-windows client desk (with_top client name desk.windows) (windows_of_others-cons client name (without_window client name desk.windows) ∙ windows_of_others-without client name desk.windows))
LeavesApart-row desk client (Mode name w h) payload short =
    LeavesApart-outcome client desk (mode_refusal desk client name w h short) (mode_effect desk client name w h)
    (LeavesApart-with_named client name (with_film (Some (blank_film (unsigned_abs w) (unsigned_abs h)))) desk (λ row. refl))
LeavesApart-row desk client (Admit name period) payload short =
    let change : Row → Row = with_film_changed (λ film. begun film (unsigned_abs period)) in
    LeavesApart-outcome client desk (admit_refusal desk client name period) (admit_effect desk client name period)
    (LeavesApart-roster client desk (with_named client name change desk.rows) (other_admissions client name desk.roster ++ admission_of desk client name period ∷ [])
    (rows_of_others-with_named client name change desk.rows (λ row. refl))
    (admissions_of_others-push client (other_admissions client name desk.roster) (admission_of desk client name period) refl ∙ admissions_of_others-without client name desk.roster))
LeavesApart-row desk client (Leave name) payload short =
    LeavesApart-outcome client desk (leave_refusal desk client name) (leave_effect desk client name)
    (LeavesApart-roster client desk (with_named client name (with_film_changed settled) desk.rows) (other_admissions client name desk.roster)
    (rows_of_others-with_named client name (with_film_changed settled) desk.rows (λ row. refl)) (admissions_of_others-without client name desk.roster))
LeavesApart-row desk client (SendFrame name size) payload short =
    LeavesApart-outcome client desk (frame_refusal desk client name payload) (frame_effect desk client name payload) (LeavesApart-with_named client name (with_film_changed (framed payload)) desk (λ row. refl))
LeavesApart-row desk client (DropWidget name) payload short =
    LeavesApart-outcome client desk (drop_refusal desk client name) (drop_effect desk client name) (LeavesApart-rows client desk (without_named client name desk.rows) (rows_of_others-without_named client name desk.rows))
LeavesApart-row desk client Poll payload short = LeavesApart-poll client desk

-- the client comes
pub LeavesApart-with_client : (client : ℕ) (desk : Desk) → LeavesApart client desk (with_client client desk)
LeavesApart-with_client client desk = record {
  shape = refl;
  clients = λ other differ. list_any-push_other client other desk.clients differ;
  rows = refl;
  windows = refl;
  pointer = refl;
  roster = refl;
  rings = rings_of_others-push client desk.rings (record { client = client; events = new_ring }) refl;
}

-- the client goes
pub LeavesApart-without_client : (client : ℕ) (desk : Desk) → LeavesApart client desk (without_client client desk)
LeavesApart-without_client client desk = record {
  shape = refl;
  clients = λ other differ. list_any-without_other client other desk.clients differ;
  rows = filter-filter (λ (row : Row). not (nat_eq client row.client)) desk.rows;
  windows = filter-filter (λ (window : ℕ × List ℕ). not (nat_eq client window.0)) desk.windows;
  pointer = refl;
  roster = filter-filter (λ (admission : Admission). not (nat_eq client admission.client)) desk.roster;
  rings = filter-filter (λ (ring : Ring). not (nat_eq client ring.client)) desk.rings;
}

-- another client's widget is in a window as it was
pub is_in_window-others : (client other : ℕ) (name : List ℕ) (old new : Desk) → nat_eq client other ≡ false → LeavesApart client old new → is_in_window new (other, name) ≡ is_in_window old (other, name)
is_in_window-others client other name old new differ leaves =
    let others : (x : ℕ) → nat_eq other x ≡ true → not (nat_eq client x) ≡ true = λ x e. rw (← eqb-true other x e, differ) refl in
    let rows : own_rows other new.rows ≡ own_rows other old.rows =
    sym (filter-within (λ (row : Row). not (nat_eq client row.client)) (λ (row : Row). nat_eq other row.client) (λ row. others row.client) new.rows)
    ∙ ap (own_rows other) leaves.rows
    ∙ filter-within (λ (row : Row). not (nat_eq client row.client)) (λ (row : Row). nat_eq other row.client) (λ row. others row.client) old.rows in
    let windows : own_windows other new.windows ≡ own_windows other old.windows =
    sym (filter-within (λ (window : ℕ × List ℕ). not (nat_eq client window.0)) (λ (window : ℕ × List ℕ). nat_eq other window.0) (λ window. others window.0) new.windows)
    ∙ ap (own_windows other) leaves.windows
    ∙ filter-within (λ (window : ℕ × List ℕ). not (nat_eq client window.0)) (λ (window : ℕ × List ℕ). nat_eq other window.0) (λ window. others window.0) old.windows in
    ap (λ root. is_open new other root) (root_in-agree most_levels other name new.rows old.rows rows)
    ∙ list_any-agree (λ (window : ℕ × List ℕ). nat_eq other window.0) (λ (window : ℕ × List ℕ). bytes_eq (root_of old.rows other name) window.1) new.windows old.windows windows

-- a grab and a focus stay, or were on the client's own widgets
grab-left : (client : ℕ) (old new : Desk) (grab : Grab) → LeavesApart client old new → grab_left (is_in_window old) grab ≡ grab → (grab_left (is_in_window new) grab ≡ grab) ⊎ (IsGrabOf client grab × (grab_left (is_in_window new) grab ≡ no_grab))
grab-left client old new no_grab leaves held = inl refl
grab-left client old new (on_widget key) leaves held = by (nat_eq client key.0) refl (is_in_window new key) refl
  where
    by : (own : Bool) → nat_eq client key.0 ≡ own → (stays : Bool) → is_in_window new key ≡ stays → (cond stays (on_widget key) no_grab ≡ on_widget key) ⊎ ((key.0 ≡ client) × (cond stays (on_widget key) no_grab ≡ no_grab))
    by own mine true e = inl refl
    by true mine false e = inr (sym (eqb-true client key.0 mine), refl)
    by false mine false e = inl (ap (λ stays. cond stays (on_widget key) no_grab) (sym e ∙ is_in_window-others client key.0 key.1 old new mine leaves) ∙ held)
grab-left client old new (drags window dx dy) leaves held = by (nat_eq client window.0) refl (is_in_window new window) refl
  where
    by : (own : Bool) → nat_eq client window.0 ≡ own → (stays : Bool) → is_in_window new window ≡ stays → (cond stays (drags window dx dy) no_grab ≡ drags window dx dy) ⊎ ((window.0 ≡ client) × (cond stays (drags window dx dy) no_grab ≡ no_grab))
    by own mine true e = inl refl
    by true mine false e = inr (sym (eqb-true client window.0 mine), refl)
    by false mine false e = inl (ap (λ stays. cond stays (drags window dx dy) no_grab) (sym e ∙ is_in_window-others client window.0 window.1 old new mine leaves) ∙ held)

focus-left : (client : ℕ) (old new : Desk) (focus : Option (ℕ × List ℕ)) → LeavesApart client old new → focus_left (is_in_window old) focus ≡ focus → (focus_left (is_in_window new) focus ≡ focus) ⊎ (IsFocusOf client focus × (focus_left (is_in_window new) focus ≡ None))
focus-left client old new None leaves held = inl refl
focus-left client old new (Some widget) leaves held = by (nat_eq client widget.0) refl (is_in_window new widget) refl
  where
    by : (own : Bool) → nat_eq client widget.0 ≡ own → (stays : Bool) → is_in_window new widget ≡ stays → (cond stays (Some widget) None ≡ Some widget) ⊎ ((widget.0 ≡ client) × (cond stays (Some widget) None ≡ None))
    by own mine true e = inl refl
    by true mine false e = inr (sym (eqb-true client widget.0 mine), refl)
    by false mine false e = inl (ap (λ stays. cond stays (Some widget) None) (sym e ∙ is_in_window-others client widget.0 widget.1 old new mine leaves) ∙ held)

LeavesPointer-let_go : (client : ℕ) (old new : Desk) (pointer : Pointer) → pointer ≡ old.pointer → let_go old ≡ old → LeavesApart client old new → LeavesPointer client old.pointer (record pointer { grab = grab_left (is_in_window new) pointer.grab; focus = focus_left (is_in_window new) pointer.focus })
unfolding let_go
LeavesPointer-let_go client old new pointer same held leaves =
    subst (λ (p : Pointer). LeavesPointer client old.pointer (record p { grab = grab_left (is_in_window new) p.grab; focus = focus_left (is_in_window new) p.focus })) (sym same)
    (record {
      x = refl;
      y = refl;
      down = refl;
      grab = grab-left client old new old.pointer.grab leaves (ap (λ (d : Desk). d.pointer.grab) held);
      focus = focus-left client old new old.pointer.focus leaves (ap (λ (d : Desk). d.pointer.focus) held);
    })

-- a step's ending
pub LeavesOthers-let_go : (client : ℕ) (old new : Desk) → let_go old ≡ old → LeavesApart client old new → LeavesOthers client old (let_go new)
unfolding let_go
LeavesOthers-let_go client old new held leaves = record {
  shape = leaves.shape;
  clients = leaves.clients;
  rows = leaves.rows;
  windows = leaves.windows;
  pointer = LeavesPointer-let_go client old new new.pointer leaves.pointer held leaves;
  roster = leaves.roster;
  rings = leaves.rings;
}

-- What a step did before its ending left the others' parts and the pointer.
pub record Ends (client : ℕ) (old next : Desk) : Type 0 where
  pub before : Desk
  pub ended : next ≡ let_go before
  pub leaves : LeavesApart client old before

pub command_ends : (desk : Desk) (client : ℕ) (command : Command) (payload : List ℕ) (short : Bool) → Ends client desk (step desk client command payload short).1
unfolding step
command_ends desk client command payload short = record {
  before = (outcome desk (when (not (is_connected desk client)) NotConnected) (row_of command payload desk client short)).1;
  ended = refl;
  leaves = LeavesApart-outcome client desk (when (not (is_connected desk client)) NotConnected) (row_of command payload desk client short) (LeavesApart-row desk client command payload short);
}

pub connect_ends : (desk : Desk) (client : ℕ) (short : Bool) → Ends client desk (step_connect desk client short).1
unfolding step_connect
connect_ends desk client short = record {
  before = (outcome desk (first_refusal (when (is_connected desk client) Connected ∷ when short Memory ∷ [])) (Done, with_client client desk)).1;
  ended = refl;
  leaves = LeavesApart-outcome client desk (first_refusal (when (is_connected desk client) Connected ∷ when short Memory ∷ [])) (Done, with_client client desk) (LeavesApart-with_client client desk);
}

hello_ends : (desk : Desk) (client : ℕ) (short : Bool) → free_client desk.clients ≡ Some client → Ends client desk (step_hello desk short).1
unfolding step_hello
hello_ends desk client short free = record {
  before = (outcome desk (first_refusal (when (is_none (free_client desk.clients)) (Full 16) ∷ when short Memory ∷ [])) (hello_effect desk (free_client desk.clients))).1;
  ended = refl;
  leaves = LeavesApart-outcome client desk (first_refusal (when (is_none (free_client desk.clients)) (Full 16) ∷ when short Memory ∷ [])) (hello_effect desk (free_client desk.clients)) (rw free (LeavesApart-with_client client desk));
}

pub bye_ends : (desk : Desk) (client : ℕ) → Ends client desk (step_bye desk client).1
unfolding step_bye
bye_ends desk client = record {
  before = (outcome desk (when (not (is_connected desk client)) NotConnected) (Done, without_client client desk)).1;
  ended = refl;
  leaves = LeavesApart-outcome client desk (when (not (is_connected desk client)) NotConnected) (Done, without_client client desk) (LeavesApart-without_client client desk);
}

pub shape-let_go : (desk : Desk) → (let_go desk).shape ≡ desk.shape
unfolding let_go
shape-let_go desk = refl

pub shape-ends : (client : ℕ) (old next : Desk) → Ends client old next → next.shape ≡ old.shape
shape-ends client old next ends = ap (λ (d : Desk). d.shape) ends.ended ∙ shape-let_go ends.before ∙ ends.leaves.shape

leaves-ends : (client : ℕ) (old next : Desk) → let_go old ≡ old → Ends client old next → LeavesOthers client old next
leaves-ends client old next held ends =
    subst (λ (d : Desk). LeavesOthers client old d) (sym ends.ended) (LeavesOthers-let_go client old ends.before held ends.leaves)

-- the laws
pub commands_leave_others : CommandsLeaveOthers
commands_leave_others desk client command payload short is = leaves-ends client desk _ is.held (command_ends desk client command payload short)

pub connects_leave_others : ConnectsLeaveOthers
connects_leave_others desk client short is = leaves-ends client desk _ is.held (connect_ends desk client short)

pub hellos_leave_others : HellosLeaveOthers
hellos_leave_others desk short is = by (free_client desk.clients) refl
  where
    by : (free : Option ℕ) → free_client desk.clients ≡ free → IfSome free (λ client. LeavesOthers client desk (step_hello desk short).1)
    by None found = tt
    by (Some client) found = leaves-ends client desk _ is.held (hello_ends desk client short found)

pub byes_leave_others : ByesLeaveOthers
byes_leave_others desk client is = leaves-ends client desk _ is.held (bye_ends desk client)

pub answers_depend_on_own_part : AnswersDependOnOwnPart
unfolding step
answers_depend_on_own_part one two client command payload short is_one is_two agree shares =
    answer-outcome one two (when (not (is_connected one client)) NotConnected) (when (not (is_connected two client)) NotConnected) (row_of command payload one client short) (row_of command payload two client short) (rw agree.connected refl)
    (answer-row one two client command payload short is_one is_two agree shares)

pub connects_depend_on_own_part : ConnectsDependOnOwnPart
unfolding step_connect
connects_depend_on_own_part one two client short agree =
    answer-outcome one two _ _ (Done, with_client client one) (Done, with_client client two) (rw agree.connected refl) refl

pub byes_depend_on_own_part : ByesDependOnOwnPart
unfolding step_bye
byes_depend_on_own_part one two client agree =
    answer-outcome one two _ _ (Done, without_client client one) (Done, without_client client two) (rw agree.connected refl) refl

-- How each step ends: it is refused, and the desk stays, or it is done. Want of memory is answered only where there is
-- none.
use Rattle.std.proofs.Common.{◌≡◌, ℕ, ℤ, Bool, true, false, ◌&&◌, not, is_none, List, [], ◌∷◌, map, Option, Some, None, ◌⊎◌, inl, inr, refl, sym, ap, ◌∙◌, Result, Ok, Err}
use Rattle.std.proofs.lemmas.Bool.{true≢false, and_right}
use Rattle.std.specs.Option.{option_and_then}
use Rattle.kind_core.specs.declared.kinds.Kind.{Kind}
use Rattle.kind_core.specs.declared.kinds.Attr.{Attr}
use Rattle.kind_core.specs.declared.kinds.EventKind.{EventKind}
use Rattle.kind_core.specs.declared.values.Value as value
use Rattle.kind_core.specs.declared.values.Value.TheVariants.{Number as number, Words as words}
use Rattle.kind_core.specs.declared.values.AttrRefusal.{AttrRefusal}
use Rattle.kind_core.specs.declared.values.AttrRefusal.TheVariants.{NotOfKind, OutOfRange}
use Rattle.kind_core.specs.Attributes.{domain_of, judged}
use Rattle.cmd_words.specs.declared.commands.Command.{Command}
use Rattle.cmd_words.specs.declared.commands.Command.TheVariants.{New, Set, Get, Place, Lift, ColumnConfig, RowConfig, Link, Unlink, Bind, Unbind, OpenWindow, CloseWindow, TopWindow, Mode, Admit, Leave, SendFrame, DropWidget, Poll}
use Rattle.cmd_words.specs.declared.commands.PlaceOption.{PlaceOption}
use Rattle.cmd_words.specs.declared.commands.PlaceOption.TheVariants.{Column, Row as line, Pad}
use Rattle.cmd_words.specs.declared.commands.ConfigOption.{ConfigOption}
use Rattle.cmd_words.specs.declared.commands.ConfigOption.TheVariants.{Size, Weight}
use Rattle.cmd_words.specs.declared.replies.Reply.{Reply}
use Rattle.cmd_words.specs.declared.replies.Reply.TheVariants.{Done, Refused}
use Rattle.cmd_words.specs.declared.replies.Refusal.{Refusal}
use Rattle.cmd_words.specs.declared.replies.Refusal.TheVariants.{Memory, Full, NotConnected, Connected}
use Rattle.vscreen_core.specs.FilmState.{FilmState}
use Rattle.bind_core.specs.declared.polled.Polled.{Polled}
use Rattle.bind_core.specs.declared.polled.Polled.TheVariants as polled
use Rattle.bind_core.specs.Polling.{poll_answer}
use Rattle.scene_model.specs.declared.axis.Axis.{Axis}
use Rattle.scene_model.specs.declared.axis.Axis.TheVariants.{Across, Down}
use Rattle.widget_model.specs.Named.{row_named}
use Rattle.desk_model.specs.Desk.{Desk, is_connected}
use Rattle.desk_model.specs.Refusals.{when, first_refusal, outcome, is_memory}
use Rattle.desk_model.specs.LetGo.{let_go, event_end}
use Rattle.desk_model.specs.AttrOptions.{told, attr_refusal, attrs_refusal}
use Rattle.desk_model.specs.PlaceOptions.{cell_option_refusal, cell_options_refusal}
use Rattle.desk_model.specs.ConfigOptions.{rule_option_refusal}
use Rattle.desk_model.specs.WidgetCommands.{new_refusal, new_effect, set_refusal, set_effect, get_refusal, get_effect, drop_refusal, drop_effect, step_new, step_set, step_get, step_drop, value_of, reply_with}
use Rattle.desk_model.specs.Placement.{place_refusal, place_effect, lift_refusal, lift_effect, step_place, step_lift}
use Rattle.desk_model.specs.Tracks.{track_refusal, track_effect, step_track}
use Rattle.desk_model.specs.Links.{link_refusal, link_effect, unlink_refusal, unlink_effect, step_link, step_unlink}
use Rattle.desk_model.specs.Bindings.{bind_refusal, bind_effect, step_bind}
use Rattle.desk_model.specs.Windows.{open_refusal, open_effect, step_open, unless_open, close_effect, step_close, top_effect, step_top}
use Rattle.desk_model.specs.Screens.{unless_size_fits, share_wanted, unless_share_fits, film_named, mode_refusal, mode_effect, step_mode, admit_refusal, admit_effect, step_admit, leave_refusal, leave_effect, step_leave, frame_refusal, frame_effect, step_frame}
use Rattle.desk_model.specs.Polling.{poll_reply, ring_of, step_poll}
use Rattle.desk_model.specs.Clients.{with_client, without_client, free_client, hello_effect}
use Rattle.desk_model.specs.Commands.{row_of}

abbrev pub is_refused : Reply → Bool
is_refused (Refused refusal) = true
is_refused _ = false

-- a refusal for want of memory, where there is memory
abbrev is_want : Bool → Option Refusal → Bool
is_want short None = false
is_want short (Some refusal) = not short && is_memory (Refused refusal)

-- A step is refused and leaves the desk, for want of memory only where there is none; or it isn't refused.
abbrev pub Ends : Desk → Bool → Reply × Desk → Type 0
Ends desk short done = ((refusal : Refusal) × ((done ≡ (Refused refusal, desk)) × (is_want short (Some refusal) ≡ false))) ⊎ (is_refused done.0 ≡ false)

pub ends-after : (desk : Desk) (short : Bool) (refusal : Option Refusal) (done : Reply × Desk) → is_want short refusal ≡ false → Ends desk short done → Ends desk short (outcome desk refusal done)
ends-after desk short None done fine ends = ends
ends-after desk short (Some refusal) done fine ends = inl (refusal, (refl, fine))

pub ends-outcome : (desk : Desk) (short : Bool) (refusal : Option Refusal) (effect : Reply × Desk) → is_want short refusal ≡ false → is_refused effect.0 ≡ false → Ends desk short (outcome desk refusal effect)
ends-outcome desk short refusal effect fine done = ends-after desk short refusal effect fine (inr done)

-- the refusals that want no memory
pub want-when : (short test : Bool) (refusal : Refusal) → is_memory (Refused refusal) ≡ false → is_want short (when test refusal) ≡ false
want-when short true refusal h = and_right (not short) _ h
want-when short false refusal h = refl

pub want-memory : (short : Bool) → is_want short (when short Memory) ≡ false
want-memory true = refl
want-memory false = refl

pub then : (short : Bool) (refusal : Option Refusal) (refusals : List (Option Refusal)) → is_want short refusal ≡ false → is_want short (first_refusal refusals) ≡ false → is_want short (first_refusal (refusal ∷ refusals)) ≡ false
then short None refusals p q = q
then short (Some refusal) refusals p q = p

want-each : {X : Type 0} (short : Bool) (judge : X → Option Refusal) (xs : List X) → ((x : X) → is_want short (judge x) ≡ false) → is_want short (first_refusal (map judge xs)) ≡ false
want-each short judge [] h = refl
want-each short judge (x ∷ xs) h = then short (judge x) (map judge xs) (h x) (want-each short judge xs h)

want-some : {X : Type 0} (short : Bool) (judge : X → Option Refusal) (o : Option X) → ((x : X) → is_want short (judge x) ≡ false) → is_want short (option_and_then judge o) ≡ false
want-some short judge None h = refl
want-some short judge (Some x) h = h x

want-told : (short : Bool) (said : Result (Unit {0}) AttrRefusal) → is_want short (told said) ≡ false
want-told short (Ok _) = refl
want-told short (Err NotOfKind) = and_right (not short) _ refl
want-told short (Err (OutOfRange least greatest)) = and_right (not short) _ refl

want-attrs : (short : Bool) (kind : Kind) (options : List (Attr × value.Value)) → is_want short (attrs_refusal kind options) ≡ false
want-attrs short kind options = want-each short (attr_refusal kind) options (λ option. want-told short (judged (domain_of kind option.0) option.1))

want-cell : (short : Bool) (kind : Kind) (option : PlaceOption × ℤ) → is_want short (cell_option_refusal kind option) ≡ false
want-cell short kind (Column, n) = search want-when
want-cell short kind (line, n) = search want-when
want-cell short kind (Pad, n) = search want-when

want-rule : (short : Bool) (option : ConfigOption × ℤ) → is_want short (rule_option_refusal option) ≡ false
want-rule short (Size, n) = search want-when
want-rule short (Weight, n) = search want-when

-- a reply with a value is no refusal
reads : (v : Option value.Value) → is_refused (reply_with v) ≡ false
reads None = refl
reads (Some (number n)) = refl
reads (Some (words text)) = refl

ends-track : (axis : Axis) (desk : Desk) (client : ℕ) (name : List ℕ) (index : ℤ) (options : List (ConfigOption × ℤ)) (short : Bool) → Ends desk short (step_track axis desk client name index options)
unfolding step_track
ends-track axis desk client name index options short =
    ends-outcome desk short (track_refusal desk client name index options) (track_effect axis desk client name index options)
    (let each = want-each short rule_option_refusal options (want-rule short) in search (then, want-when, each)) refl

ends-bind : (desk : Desk) (client : ℕ) (name : List ℕ) (event : EventKind) (tag : Option (List ℕ)) (short : Bool) → Ends desk short (step_bind desk client name event tag)
unfolding step_bind
ends-bind desk client name event tag short = ends-outcome desk short (bind_refusal desk client name event) (bind_effect desk client name event tag) (search (then, want-when)) refl

want-share : (desk : Desk) (client : ℕ) (name : List ℕ) (share : ℕ) (short : Bool) → is_want short (unless_share_fits desk client name share) ≡ false
want-share desk client name share short = search want-when

want-size : (frame : List ℕ) (short : Bool) (film : FilmState) → is_want short (unless_size_fits frame film) ≡ false
want-size frame short film = search want-when

-- what a poll is answered is no refusal
polls : (answer : Polled) → is_refused (poll_reply answer) ≡ false
polls (polled.Lost count) = refl
polls (polled.One posted) = refl
polls polled.Empty = refl

-- each row
ends-row : (desk : Desk) (client : ℕ) (command : Command) (payload : List ℕ) (short : Bool) → Ends desk short (row_of command payload desk client short)
unfolding step_new step_set step_get step_drop step_place step_lift step_link step_unlink step_open step_close step_top step_mode step_admit step_leave step_frame step_poll
ends-row desk client (New name kind) payload short = ends-outcome desk short (new_refusal desk client name kind short) (new_effect desk client name kind) (search (then, want-when, want-memory)) refl
ends-row desk client (Set name options) payload short =
    ends-outcome desk short (set_refusal desk client name options) (set_effect desk client name options)
    (let row = want-some short (λ row. attrs_refusal row.kind options) (row_named desk.rows client name) (λ row. want-attrs short row.kind options) in search (then, want-when, row)) refl
ends-row desk client (Get name attr) payload short = ends-outcome desk short (get_refusal desk client name attr) (get_effect desk client name attr) (search (then, want-when)) (reads (value_of desk client name attr))
ends-row desk client (Place parent child options) payload short =
    ends-outcome desk short (place_refusal desk client parent child options) (place_effect desk client parent child options)
    (let row = want-some short (λ row. cell_options_refusal row.kind options) (row_named desk.rows client parent) (λ row. want-each short (cell_option_refusal row.kind) options (want-cell short row.kind)) in
    search (then, want-when, row) depth 12) refl
ends-row desk client (Lift parent child) payload short = ends-outcome desk short (lift_refusal desk client parent child) (lift_effect desk client child) (search (then, want-when)) refl
ends-row desk client (ColumnConfig name index options) payload short = ends-track Across desk client name index options short
ends-row desk client (RowConfig name index options) payload short = ends-track Down desk client name index options short
ends-row desk client (Link name variable) payload short = ends-outcome desk short (link_refusal desk client name variable) (link_effect desk client name variable) (search (then, want-when)) refl
ends-row desk client (Unlink name) payload short = ends-outcome desk short (unlink_refusal desk client name) (unlink_effect desk client name) (search (then, want-when)) refl
ends-row desk client (Bind name event tag) payload short = ends-bind desk client name event (Some tag) short
ends-row desk client (Unbind name event) payload short = ends-bind desk client name event None short
ends-row desk client (OpenWindow name) payload short = ends-outcome desk short (open_refusal desk client name) (open_effect desk client name) (search (then, want-when)) refl
ends-row desk client (CloseWindow name) payload short = ends-outcome desk short (unless_open desk client name) (close_effect desk client name) (search (then, want-when)) refl
ends-row desk client (TopWindow name) payload short = ends-outcome desk short (unless_open desk client name) (top_effect desk client name) (search (then, want-when)) refl
ends-row desk client (Mode name w h) payload short = ends-outcome desk short (mode_refusal desk client name w h short) (mode_effect desk client name w h) (search (then, want-when, want-memory) depth 12) refl
ends-row desk client (Admit name period) payload short =
    ends-outcome desk short (admit_refusal desk client name period) (admit_effect desk client name period)
    (let fits = want-some short (λ film. unless_share_fits desk client name (share_wanted film period)) (film_named desk.rows client name) (λ film. want-share desk client name (share_wanted film period) short) in
    search (then, want-when, fits) depth 12) refl
ends-row desk client (Leave name) payload short = ends-outcome desk short (leave_refusal desk client name) (leave_effect desk client name) (search (then, want-when)) refl
ends-row desk client (SendFrame name size) payload short =
    ends-outcome desk short (frame_refusal desk client name payload) (frame_effect desk client name payload)
    (let fits = want-some short (unless_size_fits payload) (film_named desk.rows client name) (want-size payload short) in
    search (then, want-when, fits) depth 12) refl
ends-row desk client (DropWidget name) payload short = ends-outcome desk short (drop_refusal desk client name) (drop_effect desk client name) (search (then, want-when)) refl
ends-row desk client Poll payload short = inr (polls (poll_answer (ring_of desk.rings client)))

-- so does the row of a client that has to be connected
pub ends-asked : (desk : Desk) (client : ℕ) (command : Command) (payload : List ℕ) (short : Bool) → Ends desk short (outcome desk (when (not (is_connected desk client)) NotConnected) (row_of command payload desk client short))
ends-asked desk client command payload short =
    ends-after desk short (when (not (is_connected desk client)) NotConnected) (row_of command payload desk client short) (want-when short (not (is_connected desk client)) NotConnected refl) (ends-row desk client command payload short)

pub ends-connect : (desk : Desk) (client : ℕ) (short : Bool) → Ends desk short (outcome desk (first_refusal (when (is_connected desk client) Connected ∷ when short Memory ∷ [])) (Done, with_client client desk))
ends-connect desk client short = ends-outcome desk short (first_refusal (when (is_connected desk client) Connected ∷ when short Memory ∷ [])) (Done, with_client client desk) (search (then, want-when, want-memory)) refl

pub ends-hello : (desk : Desk) (short : Bool) → Ends desk short (outcome desk (first_refusal (when (is_none (free_client desk.clients)) (Full 16) ∷ when short Memory ∷ [])) (hello_effect desk (free_client desk.clients)))
ends-hello desk short =
    ends-outcome desk short (first_refusal (when (is_none (free_client desk.clients)) (Full 16) ∷ when short Memory ∷ [])) (hello_effect desk (free_client desk.clients)) (search (then, want-when, want-memory)) (by (free_client desk.clients))
  where
    by : (free : Option ℕ) → is_refused (hello_effect desk free).0 ≡ false
    by None = refl
    by (Some client) = refl

pub ends-bye : (desk : Desk) (client : ℕ) (short : Bool) → Ends desk short (outcome desk (when (not (is_connected desk client)) NotConnected) (Done, without_client client desk))
ends-bye desk client short = ends-outcome desk short (when (not (is_connected desk client)) NotConnected) (Done, without_client client desk) (want-when short (not (is_connected desk client)) NotConnected refl) refl

-- A refused step of a desk whose pointer holds nothing that is let go of leaves the desk.
pub refused-end : (desk : Desk) (short : Bool) (done : Reply × Desk) (refusal : Refusal) → let_go desk ≡ desk → Ends desk short done → done.0 ≡ Refused refusal → (event_end done).1 ≡ desk
refused-end desk short done refusal held (inl ends) is = ap (λ (d : Reply × Desk). let_go d.1) ends.1.0 ∙ held
refused-end desk short done refusal held (inr ends) is = absurd (true≢false (sym (ap is_refused is) ∙ ends))

-- where there is memory, no step answers that there is none
memory-refused : (reply : Reply) → is_refused reply ≡ false → is_memory reply ≡ false
memory-refused (Refused refusal) h = absurd (true≢false h)
memory-refused _ h = refl

pub ample-end : (desk : Desk) (done : Reply × Desk) → Ends desk false done → is_memory done.0 ≡ false
ample-end desk done (inl ends) = ap (λ (d : Reply × Desk). is_memory d.0) ends.1.0 ∙ ends.1.1
ample-end desk done (inr ends) = memory-refused done.0 ends

-- Commands that move nothing: they make or take away a widget that hangs nowhere, open a window, change what an event is
-- bound to, or set what layout needs no other room for.
use Rattle.std.proofs.Common.{◌≡◌, ℕ, ℤ, Bool, true, false, cond, ◌||◌, nat_eq, nat_lt, unsigned_abs, length, List, [], ◌∷◌, map, slice_get, Option, Some, None, is_some, refl, sym, ap, ◌∙◌}
use Rattle.std.proofs.lemmas.Bool.{true≢false}
use Rattle.std.specs.Option.{option_map, option_map_or}
use Rattle.kind_core.specs.declared.kinds.Kind.{Kind}
use Rattle.kind_core.specs.declared.kinds.Attr.{Attr}
use Rattle.kind_core.specs.declared.kinds.Attr.TheVariants.{Text, Value}
use Rattle.kind_core.specs.declared.kinds.EventKind.{EventKind}
use Rattle.kind_core.specs.declared.values.Value as value
use Rattle.vscreen_core.specs.FilmState.{FilmState, pixels_in}
use Rattle.vscreen_core.specs.Changes.{committed, begun, settled}
use Rattle.cmd_words.specs.declared.commands.Command.{Command}
use Rattle.cmd_words.specs.declared.commands.Command.TheVariants.{New, Set, Get, Place, Lift, ColumnConfig, RowConfig, Link, Unlink, Bind, Unbind, OpenWindow, CloseWindow, TopWindow, Mode, Admit, Leave, SendFrame, DropWidget, Poll}
use Rattle.cmd_words.specs.declared.replies.Reply.{Reply}
use Rattle.cmd_words.specs.declared.replies.Refusal.{Refusal}
use Rattle.widget_model.specs.Rows.{Row, attr_of, with_binding, new_row}
use Rattle.widget_model.specs.Kinds.{is_window_kind}
use Rattle.widget_model.specs.Named.{row_named, with_named}
use Rattle.widget_model.specs.Trees.{is_used}
use Rattle.widget_model.proofs.Hanging.{changed}
use Rattle.scene_model.specs.Values.{number_of, text_of, linked_value}
use Rattle.desk_model.specs.Desk.{Desk, is_open}
use Rattle.desk_model.specs.DeskFacts.{IsDesk}
use Rattle.scene_model.specs.WindowRows.{AreHung}
use Rattle.desk_model.specs.WidgetCommands.{step_new, new_refusal, new_effect, step_set, set_refusal, set_effect, step_get, get_refusal, get_effect, step_drop, drop_refusal, drop_effect}
use Rattle.cmd_words.specs.declared.replies.Refusal.TheVariants.{NameTaken, NoSuchName, InUse}
use Rattle.desk_moves.proofs.NewStays.{unmoved-more}
use Rattle.desk_model.specs.Refusals.{outcome, first_refusal, when, unless_there}
use Rattle.desk_model.specs.Bindings.{step_bind, bind_refusal, bind_effect}
use Rattle.desk_model.specs.Windows.{step_open, open_refusal, open_effect, unless_open, close_effect, step_close, top_effect, step_top}
use Rattle.desk_model.specs.Screens.{with_film_changed, framed, admit_refusal, admit_effect, step_admit, leave_refusal, leave_effect, step_leave, frame_refusal, frame_effect, step_frame}
use Rattle.desk_model.specs.Polling.{step_poll}
use Rattle.desk_model.specs.Commands.{row_of}
use Rattle.desk_moves.specs.Stays.{MoveNothing, may_move}
use Rattle.desk_moves.proofs.LeftAsked.{film_size, letters_in, LeavesAsked, linked-kept, moves-nothing}
use Rattle.desk_moves.proofs.SetStays.{of-changed, set-unmoved}
use Rattle.desk_moves.proofs.DropStays.{unmoved-less}
use Rattle.desk_moves.proofs.Unmoved.{unmoved-same, unmoved-map}

-- a binding is nothing that layout reads
bound-leaves : (rows : List Row) (client : ℕ) (name : List ℕ) (event : EventKind) (tag : Option (List ℕ)) → LeavesAsked (changed client name (with_binding event tag)) rows
bound-leaves rows client name event tag = record {
  client = of-changed (λ (r : Row). r.client) client name (with_binding event tag) (λ row. refl);
  name = of-changed (λ (r : Row). r.name) client name (with_binding event tag) (λ row. refl);
  kind = of-changed (λ (r : Row). r.kind) client name (with_binding event tag) (λ row. refl);
  attached = of-changed (λ (r : Row). r.attached) client name (with_binding event tag) (λ row. refl);
  column_rules = of-changed (λ (r : Row). r.column_rules) client name (with_binding event tag) (λ row. refl);
  row_rules = of-changed (λ (r : Row). r.row_rules) client name (with_binding event tag) (λ row. refl);
  film = of-changed (λ (r : Row). option_map film_size r.film) client name (with_binding event tag) (λ row. refl);
  measures = λ i row there attr measure. of-changed (λ (r : Row). attr_of r attr) client name (with_binding event tag) (λ other. refl) row;
  texts = λ i row there asked. of-changed (λ (r : Row). length (text_of Text r)) client name (with_binding event tag) (λ other. refl) row;
  letters = λ i row there. ap letters_in (linked i row there);
  framed = λ i row there frame. linked i row there;
}
  where
    next : Row → Row
    next = changed client name (with_binding event tag)

    linked : (i : ℕ) (row : Row) → slice_get rows i ≡ Some row → linked_value (map next rows) (next row) ≡ linked_value rows row
    linked i row there =
        linked-kept next rows row
        (record { client = of-changed (λ (r : Row). r.client) client name (with_binding event tag) (λ other. refl); name = of-changed (λ (r : Row). r.name) client name (with_binding event tag) (λ other. refl) })
        (of-changed (λ (r : Row). r.client) client name (with_binding event tag) (λ other. refl) row)
        (of-changed (λ (r : Row). r.link) client name (with_binding event tag) (λ other. refl) row)
        (λ to other q p. of-changed (λ (r : Row). number_of Value r) client name (with_binding event tag) (λ third. refl) other)

-- nor is what a film of its size shows
filmed-leaves : (rows : List Row) (client : ℕ) (name : List ℕ) (change : FilmState → FilmState) → ((film : FilmState) → film_size (change film) ≡ film_size film) → LeavesAsked (changed client name (with_film_changed change)) rows
filmed-leaves rows client name change same = record {
  client = of-changed (λ (r : Row). r.client) client name (with_film_changed change) (λ row. refl);
  name = of-changed (λ (r : Row). r.name) client name (with_film_changed change) (λ row. refl);
  kind = of-changed (λ (r : Row). r.kind) client name (with_film_changed change) (λ row. refl);
  attached = of-changed (λ (r : Row). r.attached) client name (with_film_changed change) (λ row. refl);
  column_rules = of-changed (λ (r : Row). r.column_rules) client name (with_film_changed change) (λ row. refl);
  row_rules = of-changed (λ (r : Row). r.row_rules) client name (with_film_changed change) (λ row. refl);
  film = of-changed (λ (r : Row). option_map film_size r.film) client name (with_film_changed change) (λ row. size row.film);
  measures = λ i row there attr measure. of-changed (λ (r : Row). attr_of r attr) client name (with_film_changed change) (λ other. refl) row;
  texts = λ i row there asked. of-changed (λ (r : Row). length (text_of Text r)) client name (with_film_changed change) (λ other. refl) row;
  letters = λ i row there. ap letters_in (linked i row there);
  framed = λ i row there frame. linked i row there;
}
  where
    size : (o : Option FilmState) → option_map film_size (option_map change o) ≡ option_map film_size o
    size None = refl
    size (Some film) = ap Some (same film)

    next : Row → Row
    next = changed client name (with_film_changed change)

    linked : (i : ℕ) (row : Row) → slice_get rows i ≡ Some row → linked_value (map next rows) (next row) ≡ linked_value rows row
    linked i row there =
        linked-kept next rows row
        (record { client = of-changed (λ (r : Row). r.client) client name (with_film_changed change) (λ other. refl); name = of-changed (λ (r : Row). r.name) client name (with_film_changed change) (λ other. refl) })
        (of-changed (λ (r : Row). r.client) client name (with_film_changed change) (λ other. refl) row)
        (of-changed (λ (r : Row). r.link) client name (with_film_changed change) (λ other. refl) row)
        (λ to other q p. of-changed (λ (r : Row). number_of Value r) client name (with_film_changed change) (λ third. refl) other)

-- a refusal leaves the rows
unmoved-outcome : (desk : Desk) (refusal : Option Refusal) (effect : Reply × Desk) → MoveNothing desk.rows effect.1.rows → MoveNothing desk.rows (outcome desk refusal effect).1.rows
unmoved-outcome desk None effect still = still
unmoved-outcome desk (Some refusal) effect still = unmoved-same desk.rows

unmoved-bind : (desk : Desk) (client : ℕ) (name : List ℕ) (event : EventKind) (tag : Option (List ℕ)) → MoveNothing desk.rows (step_bind desk client name event tag).1.rows
unfolding step_bind
unmoved-bind desk client name event tag =
    unmoved-outcome desk (bind_refusal desk client name event) (bind_effect desk client name event tag)
    (unmoved-map (changed client name (with_binding event tag)) desk.rows (moves-nothing (changed client name (with_binding event tag)) desk.rows (bound-leaves desk.rows client name event tag)))

unmoved-open : (desk : Desk) (client : ℕ) (name : List ℕ) → MoveNothing desk.rows (step_open desk client name).1.rows
unfolding step_open
unmoved-open desk client name = unmoved-outcome desk (open_refusal desk client name) (open_effect desk client name) (unmoved-same desk.rows)

unmoved-close : (desk : Desk) (client : ℕ) (name : List ℕ) → MoveNothing desk.rows (step_close desk client name).1.rows
unfolding step_close
unmoved-close desk client name = unmoved-outcome desk (unless_open desk client name) (close_effect desk client name) (unmoved-same desk.rows)

unmoved-top : (desk : Desk) (client : ℕ) (name : List ℕ) → MoveNothing desk.rows (step_top desk client name).1.rows
unfolding step_top
unmoved-top desk client name = unmoved-outcome desk (unless_open desk client name) (top_effect desk client name) (unmoved-same desk.rows)

unmoved-set : (desk : Desk) (client : ℕ) (name : List ℕ) (options : List (Attr × value.Value)) → IsDesk desk → may_move desk.rows client (Set name options) ≡ false → MoveNothing desk.rows (step_set desk client name options).1.rows
unfolding step_set
unmoved-set desk client name options kept still =
    unmoved-outcome desk (set_refusal desk client name options) (set_effect desk client name options) (set-unmoved desk.rows client name options kept.rows.names kept.rows.linked (row_named desk.rows client name) refl still)

named-none : (o : Option Row) (refusals : List (Option Refusal)) → first_refusal (when (is_some o) NameTaken ∷ refusals) ≡ None → o ≡ None
named-none None refusals h = refl
named-none (Some row) refusals h = absurd (cc)

unmoved-new : (desk : Desk) (client : ℕ) (name : List ℕ) (kind : Kind) (short : Bool) → IsDesk desk → is_window_kind kind ≡ false → AreHung (step_new desk client name kind short).1.rows → MoveNothing desk.rows (step_new desk client name kind short).1.rows
unfolding step_new new_row
unmoved-new desk client name kind short kept plain hung = by (new_refusal desk client name kind short) refl hung
  where
    by : (o : Option Refusal) → new_refusal desk client name kind short ≡ o → AreHung (outcome desk o (new_effect desk client name kind)).1.rows → MoveNothing desk.rows (outcome desk o (new_effect desk client name kind)).1.rows
    by (Some refusal) q after = unmoved-same desk.rows
    by None q after = unmoved-more desk.rows (new_row client name kind) refl refl (named-none (row_named desk.rows client name) _ q) kept.rows.linked (record { names = kept.rows.names; planted = kept.rows.planted }) after plain

unmoved-film : (desk : Desk) (client : ℕ) (name : List ℕ) (change : FilmState → FilmState) → ((film : FilmState) → film_size (change film) ≡ film_size film) → MoveNothing desk.rows (with_named client name (with_film_changed change) desk.rows)
unmoved-film desk client name change same =
    unmoved-map (changed client name (with_film_changed change)) desk.rows (moves-nothing (changed client name (with_film_changed change)) desk.rows (filmed-leaves desk.rows client name change same))

committed-size : (film : FilmState) (frame : List ℕ) → film_size (committed film frame) ≡ film_size film
unfolding committed
committed-size film frame = by (nat_eq (length frame) (pixels_in film))
  where
    by : (b : Bool) → film_size (cond b (record film { newest = frame }) film) ≡ film_size film
    by true = refl
    by false = refl

settled-size : (film : FilmState) → film_size (settled film) ≡ film_size film
unfolding settled
settled-size film = refl

begun-size : (film : FilmState) (period : ℕ) → film_size (begun film period) ≡ film_size film
unfolding begun
begun-size film period = refl

framed-size : (frame : List ℕ) (film : FilmState) → film_size (framed frame film) ≡ film_size film
framed-size frame film = by (nat_lt 0 film.period)
  where
    by : (b : Bool) → film_size (cond b (committed film frame) (settled (committed film frame))) ≡ film_size film
    by true = committed-size film frame
    by false = settled-size (committed film frame) ∙ committed-size film frame

unmoved-admit : (desk : Desk) (client : ℕ) (name : List ℕ) (period : ℤ) → MoveNothing desk.rows (step_admit desk client name period).1.rows
unfolding step_admit
unmoved-admit desk client name period = unmoved-outcome desk (admit_refusal desk client name period) (admit_effect desk client name period) (unmoved-film desk client name (λ film. begun film (unsigned_abs period)) (λ film. begun-size film (unsigned_abs period)))

unmoved-leave : (desk : Desk) (client : ℕ) (name : List ℕ) → MoveNothing desk.rows (step_leave desk client name).1.rows
unfolding step_leave
unmoved-leave desk client name = unmoved-outcome desk (leave_refusal desk client name) (leave_effect desk client name) (unmoved-film desk client name settled settled-size)

unmoved-frame : (desk : Desk) (client : ℕ) (name frame : List ℕ) → MoveNothing desk.rows (step_frame desk client name frame).1.rows
unfolding step_frame
unmoved-frame desk client name frame = unmoved-outcome desk (frame_refusal desk client name frame) (frame_effect desk client name frame) (unmoved-film desk client name (framed frame) (framed-size frame))

unmoved-get : (desk : Desk) (client : ℕ) (name : List ℕ) (attr : Attr) → MoveNothing desk.rows (step_get desk client name attr).1.rows
unfolding step_get
unmoved-get desk client name attr = unmoved-outcome desk (get_refusal desk client name attr) (get_effect desk client name attr) (unmoved-same desk.rows)

-- a widget that is taken away isn't used
dropped-unused : (rows : List Row) (o : Option Row) (opened : Bool) (row : Row) → o ≡ Some row → first_refusal (unless_there o ∷ when (option_map_or (is_used rows) o false || opened) InUse ∷ []) ≡ None → is_used rows row ≡ false
dropped-unused rows o opened row there none = by (is_used rows row) refl
  where
    by : (b : Bool) → is_used rows row ≡ b → b ≡ false
    by false q = refl
    by true q =
        let refused : Some InUse ≡ None =
        sym (ap (λ (b : Bool). first_refusal (unless_there (Some row) ∷ when (b || opened) InUse ∷ [])) q)
        ∙ sym (ap (λ (p : Option Row). first_refusal (unless_there p ∷ when (option_map_or (is_used rows) p false || opened) InUse ∷ [])) there)
        ∙ none in
        absurd (cc)

unmoved-drop : (desk : Desk) (client : ℕ) (name : List ℕ) → IsDesk desk → AreHung (step_drop desk client name).1.rows → MoveNothing desk.rows (step_drop desk client name).1.rows
unfolding step_drop
unmoved-drop desk client name kept hung = by (drop_refusal desk client name) refl hung (row_named desk.rows client name) refl
  where
    by : (refusal : Option Refusal) → drop_refusal desk client name ≡ refusal → AreHung (outcome desk refusal (drop_effect desk client name)).1.rows → (o : Option Row) → row_named desk.rows client name ≡ o → MoveNothing desk.rows (outcome desk refusal (drop_effect desk client name)).1.rows
    by (Some refusal) q after o p = unmoved-same desk.rows
    by None q after None p =
        let refused : Some NoSuchName ≡ None = sym (ap (λ (o : Option Row). first_refusal (unless_there o ∷ when (option_map_or (is_used desk.rows) o false || is_open desk client name) InUse ∷ [])) p) ∙ q in
        absurd (cc)
    by None q after (Some row) p = unmoved-less desk.rows client name row p (dropped-unused desk.rows (row_named desk.rows client name) (is_open desk client name) row p q) (record { names = kept.rows.names; planted = kept.rows.planted }) after

unmoved-poll : (desk : Desk) (client : ℕ) → MoveNothing desk.rows (step_poll desk client).1.rows
unfolding step_poll
unmoved-poll desk client = unmoved-same desk.rows

-- the commands of which nothing is to be laid out
pub unmoved-command : (command : Command) (payload : List ℕ) (desk : Desk) (client : ℕ) (short : Bool) → IsDesk desk → AreHung (row_of command payload desk client short).1.rows → may_move desk.rows client command ≡ false → MoveNothing desk.rows (row_of command payload desk client short).1.rows
unmoved-command (New name kind) payload desk client short kept hung still = unmoved-new desk client name kind short kept still hung
unmoved-command (Set name options) payload desk client short kept hung still = unmoved-set desk client name options kept still
unmoved-command (Get name attr) payload desk client short kept hung still = unmoved-get desk client name attr
unmoved-command (Place parent child options) payload desk client short kept hung still = absurd (true≢false still)
unmoved-command (Lift parent child) payload desk client short kept hung still = absurd (true≢false still)
unmoved-command (ColumnConfig name index options) payload desk client short kept hung still = absurd (true≢false still)
unmoved-command (RowConfig name index options) payload desk client short kept hung still = absurd (true≢false still)
unmoved-command (Link name variable) payload desk client short kept hung still = absurd (true≢false still)
unmoved-command (Unlink name) payload desk client short kept hung still = absurd (true≢false still)
unmoved-command (Bind name event tag) payload desk client short kept hung still = unmoved-bind desk client name event (Some tag)
unmoved-command (Unbind name event) payload desk client short kept hung still = unmoved-bind desk client name event None
unmoved-command (OpenWindow name) payload desk client short kept hung still = unmoved-open desk client name
unmoved-command (CloseWindow name) payload desk client short kept hung still = unmoved-close desk client name
unmoved-command (TopWindow name) payload desk client short kept hung still = unmoved-top desk client name
unmoved-command (Mode name w h) payload desk client short kept hung still = absurd (true≢false still)
unmoved-command (Admit name period) payload desk client short kept hung still = unmoved-admit desk client name period
unmoved-command (Leave name) payload desk client short kept hung still = unmoved-leave desk client name
unmoved-command (SendFrame name size) payload desk client short kept hung still = unmoved-frame desk client name payload
unmoved-command (DropWidget name) payload desk client short kept hung still = unmoved-drop desk client name kept hung
unmoved-command Poll payload desk client short kept hung still = unmoved-poll desk client

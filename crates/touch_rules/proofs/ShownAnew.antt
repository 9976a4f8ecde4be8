-- Each command's row shows anew what the definition says.
use Rattle.std.proofs.Common.{◌≡◌, ℕ, ℤ, pos, Bool, true, false, cond, ◌&&◌, not, nat_eq, nat_lt, length, List, [], ◌∷◌, Option, Some, None, refl, sym, ap, subst, ◌∙◌}
use Rattle.std.proofs.lemmas.Bool.{eq-eqb, not-false}
use Rattle.std.specs.Prelude.{unsigned_abs}
use Rattle.std.specs.Option.{option_map, option_map_or, option_and_then}
use Rattle.std.specs.Str.{bytes_eq}
use Rattle.kind_core.specs.declared.kinds.Attr.{Attr}
use Rattle.kind_core.specs.declared.kinds.EventKind.{EventKind}
use Rattle.kind_core.specs.declared.values.Value as value
use Rattle.cmd_words.specs.declared.commands.ConfigOption.{ConfigOption}
use Rattle.cmd_words.specs.declared.commands.Command.{Command}
use Rattle.cmd_words.specs.declared.commands.Command.TheVariants.{New, Set, Get, Place, Lift, ColumnConfig, RowConfig, Link, Unlink, Bind, Unbind, OpenWindow, CloseWindow, TopWindow, Mode, Admit, Leave, SendFrame, DropWidget, Poll}
use Rattle.cmd_words.specs.declared.replies.Reply.{Reply}
use Rattle.cmd_words.specs.declared.replies.Reply.TheVariants.{Refused}
use Rattle.cmd_words.specs.declared.replies.Refusal.{Refusal}
use Rattle.cmd_words.specs.declared.replies.Refusal.TheVariants.{NotConnected, Admitted, Memory, NotAdmitted, FrameSize}
use Rattle.vscreen_core.specs.FilmState.{FilmState, pixels_in, blank_film}
use Rattle.vscreen_core.specs.Changes.{committed, begun, settled}
use Rattle.widget_model.specs.Rows.{Row, new_row, with_attr, with_attached, with_link, with_binding, with_film}
use Rattle.widget_model.specs.Named.{row_named, with_named, is_kind_of}
use Rattle.widget_model.specs.Trees.{is_admitted}
use Rattle.widget_model.proofs.Hanging.{LeavesNames}
use Rattle.scene_model.specs.declared.axis.Axis.{Axis}
use Rattle.scene_model.specs.declared.axis.Axis.TheVariants.{Across, Down}
use Rattle.desk_model.specs.Desk.{Desk, is_connected}
use Rattle.desk_model.specs.Refusals.{when, first_refusal, outcome, unless_there, unless_kind}
use Rattle.desk_model.specs.AttrOptions.{with_attrs}
use Rattle.desk_model.specs.PlaceOptions.{cell_given, unless_within}
use Rattle.desk_model.specs.WidgetCommands.{new_refusal, set_refusal, get_refusal, get_effect, drop_refusal, new_effect, set_effect, drop_effect, step_new, step_set, step_get, step_drop}
use Rattle.desk_model.specs.Placement.{place_refusal, place_effect, lift_refusal, lift_effect, step_place, step_lift}
use Rattle.desk_model.specs.Tracks.{with_track, track_refusal, track_effect, step_track}
use Rattle.desk_model.specs.Links.{link_refusal, link_effect, unlink_refusal, unlink_effect, step_link, step_unlink}
use Rattle.desk_model.specs.Bindings.{bind_refusal, bind_effect, step_bind}
use Rattle.desk_model.specs.Windows.{open_refusal, open_effect, step_open, unless_open, close_effect, step_close, top_effect, step_top}
use Rattle.desk_model.specs.Screens.{is_screen, film_named, unless_film, with_film_changed, mode_refusal, mode_effect, step_mode, admit_refusal, admit_effect, step_admit, leave_refusal, leave_effect, step_leave, framed, unless_size_fits, frame_refusal, frame_effect, step_frame}
use Rattle.desk_model.specs.Polling.{step_poll}
use Rattle.desk_model.specs.Commands.{row_of, step}
use Rattle.desk_model.specs.LetGo.{let_go}
use Rattle.desk_model.proofs.Refusals.{passed, when-none, unless_kind-none}
use Rattle.touch_rules.specs.Films.{looks_alike, shown_film, blank_differs, newest_differs, frame_differs, shown_anew, ShowsAnew, unless_refused, CommandsShowAnew}
use Rattle.touch_rules.proofs.ShownFilms.{KeepFilms, KeepFilms-same, LeavesFilm, KeepFilms-named, KeepFilms-push, KeepFilms-without, alike-own, ShowsAnew-none, ShowsAnew-named}

-- a step shows that anew, where it isn't refused
abbrev Shows : ℕ → Option (List ℕ) → Desk → Reply × Desk → Type 0
Shows client anew desk done = ShowsAnew client (unless_refused done.0 anew) desk.rows done.1.rows

none-refused : {X : Type 0} (reply : Reply) → unless_refused {X = X} reply None ≡ None
none-refused (Refused refusal) = refl
none-refused _ = refl

-- a refused command shows none anew
shows-refused : (desk : Desk) (client : ℕ) (anew : Option (List ℕ)) (refusal : Refusal) → Shows client anew desk (Refused refusal, desk)
shows-refused desk client anew refusal = ShowsAnew-none client desk.rows desk.rows (KeepFilms-same desk.rows)

shows-kept : (desk : Desk) (client : ℕ) (refusal : Option Refusal) (effect : Reply × Desk) → KeepFilms desk.rows effect.1.rows → Shows client None desk (outcome desk refusal effect)
shows-kept desk client (Some refusal) effect keeps = shows-refused desk client None refusal
shows-kept desk client None effect keeps = rw (none-refused {X = List ℕ} effect.0) (ShowsAnew-none client desk.rows effect.1.rows keeps)

shows-done : (desk : Desk) (client : ℕ) (anew : Option (List ℕ)) (refusal : Option Refusal) (effect : Reply × Desk) → (refusal ≡ None → Shows client anew desk effect) → Shows client anew desk (outcome desk refusal effect)
shows-done desk client anew None effect done = done refl
shows-done desk client anew (Some refusal) effect done = shows-refused desk client anew refusal

LeavesFilm-attrs : (options : List (Attr × value.Value)) → LeavesFilm (with_attrs options)
LeavesFilm-attrs options = record { names = record { client = client options; name = name options }; film = film options }
  where
    client : (options : List (Attr × value.Value)) (row : Row) → (with_attrs options row).client ≡ row.client
    client [] row = refl
    client (option ∷ options) row = client options (with_attr option.0 option.1 row)

    name : (options : List (Attr × value.Value)) (row : Row) → (with_attrs options row).name ≡ row.name
    name [] row = refl
    name (option ∷ options) row = name options (with_attr option.0 option.1 row)

    film : (options : List (Attr × value.Value)) (row : Row) → shown_film (with_attrs options row) ≡ shown_film row
    film [] row = refl
    film (option ∷ options) row = film options (with_attr option.0 option.1 row)

LeavesFilm-track : (axis : Axis) (index : ℕ) (options : List (ConfigOption × ℤ)) → LeavesFilm (with_track axis index options)
LeavesFilm-track Across index options = record { names = record { client = λ row. refl; name = λ row. refl }; film = λ row. refl }
LeavesFilm-track Down index options = record { names = record { client = λ row. refl; name = λ row. refl }; film = λ row. refl }

shows-track : (axis : Axis) (desk : Desk) (client : ℕ) (name : List ℕ) (index : ℤ) (options : List (ConfigOption × ℤ)) → Shows client None desk (step_track axis desk client name index options)
unfolding step_track
shows-track axis desk client name index options =
    shows-kept desk client (track_refusal desk client name index options) (track_effect axis desk client name index options) (KeepFilms-named desk.rows client name (with_track axis (unsigned_abs index) options) (LeavesFilm-track axis (unsigned_abs index) options))

shows-bind : (desk : Desk) (client : ℕ) (name : List ℕ) (event : EventKind) (tag : Option (List ℕ)) → Shows client None desk (step_bind desk client name event tag)
unfolding step_bind
shows-bind desk client name event tag =
    shows-kept desk client (bind_refusal desk client name event) (bind_effect desk client name event tag) (KeepFilms-named desk.rows client name (with_binding event tag) (record { names = record { client = λ row. refl; name = λ row. refl }; film = λ row. refl }))

-- the named row's film
film_named-row : (rows : List Row) (client : ℕ) (name : List ℕ) (row : Row) → row_named rows client name ≡ Some row → film_named rows client name ≡ row.film
film_named-row rows client name row found = ap (option_and_then (λ (row : Row). row.film)) found

-- a kind that isn't refused
passes-kind : (o : Option Row) (refusals : List (Option Refusal)) → first_refusal (unless_there o ∷ unless_kind is_screen o ∷ refusals) ≡ None → (is_kind_of is_screen o ≡ true) × (first_refusal refusals ≡ None)
passes-kind o refusals none =
    let one = passed (unless_there o) (unless_kind is_screen o ∷ refusals) none in
    let two = passed (unless_kind is_screen o) refusals one.1 in
    (unless_kind-none is_screen o two.0, two.1)

LeavesNames-filmed : (give : Option FilmState → Option FilmState) → LeavesNames (λ row. with_film (give row.film) row)
LeavesNames-filmed give = record { client = λ row. refl; name = λ row. refl }

-- a VScreen whose film is changed looks different where its films do
shows-film : (rows : List Row) (client : ℕ) (name : List ℕ) (give : Option FilmState → Option FilmState) (test : Option FilmState → Bool) → is_kind_of is_screen (row_named rows client name) ≡ true → not (looks_alike (film_named rows client name) (give (film_named rows client name))) ≡ test (film_named rows client name)
    → ShowsAnew client (cond (test (film_named rows client name)) (Some name) None) rows (with_named client name (λ row. with_film (give row.film) row) rows)
shows-film rows client name give test screen looks = ShowsAnew-named rows client name (λ row. with_film (give row.film) row) (test (film_named rows client name)) (LeavesNames-filmed give) each
  where
    each : (row : Row) → row_named rows client name ≡ Some row → not (looks_alike (shown_film row) (shown_film (with_film (give row.film) row))) ≡ test (film_named rows client name)
    each row found =
        let kind : is_screen row.kind ≡ true = sym (ap (is_kind_of is_screen) found) ∙ screen in
        ap (λ (b : Bool). not (looks_alike (cond b row.film None) (cond b (give row.film) None))) kind
        ∙ sym (ap (λ (film : Option FilmState). not (looks_alike film (give film))) (film_named-row rows client name row found))
        ∙ looks

size-own : (w h : ℕ) (b : Bool) → (nat_eq w w && (nat_eq h h && b)) ≡ b
size-own w h b = rw (eq-eqb w w refl, eq-eqb h h refl) refl

-- `mode`
blank-looks : (w h : ℕ) (film : Option FilmState) → not (looks_alike film (Some (blank_film w h))) ≡ blank_differs w h film
unfolding blank_film
blank-looks w h None = refl
blank-looks w h (Some film) = refl

shows-mode : (desk : Desk) (client : ℕ) (name : List ℕ) (w h : ℤ) (payload : List ℕ) (short : Bool) → Shows client (shown_anew desk.rows client (Mode name w h) payload) desk (step_mode desk client name w h short)
unfolding step_mode
shows-mode desk client name w h payload short = shows-done desk client (shown_anew desk.rows client (Mode name w h) payload) (mode_refusal desk client name w h short) (mode_effect desk client name w h) done
  where
    row : Option Row
    row = row_named desk.rows client name

    last : List (Option Refusal)
    last = unless_within (pos 1) (pos 256) w ∷ unless_within (pos 1) (pos 256) h ∷ when (option_map_or is_admitted row false) Admitted ∷ when short Memory ∷ []

    done : mode_refusal desk client name w h short ≡ None → Shows client (shown_anew desk.rows client (Mode name w h) payload) desk (mode_effect desk client name w h)
    done none =
        shows-film desk.rows client name (λ film. Some (blank_film (unsigned_abs w) (unsigned_abs h))) (blank_differs (unsigned_abs w) (unsigned_abs h))
        (passes-kind row last none).0 (blank-looks (unsigned_abs w) (unsigned_abs h) (film_named desk.rows client name))

-- `admit`
LeavesFilm-begun : (period : ℕ) (desk : Desk) (client : ℕ) (name : List ℕ) → ShowsAnew client (cond false (Some name) None) desk.rows (with_named client name (with_film_changed (λ film. begun film period)) desk.rows)
unfolding begun
LeavesFilm-begun period desk client name = ShowsAnew-named desk.rows client name (with_film_changed (λ film. begun film period)) false (LeavesNames-filmed (option_map (λ film. begun film period))) (λ row found. at (is_screen row.kind) row.film)
  where
    at : (b : Bool) (film : Option FilmState) → not (looks_alike (cond b film None) (cond b (option_map (λ film. begun film period) film) None)) ≡ false
    at true None = refl
    at true (Some film) = ap not (alike-own (Some film))
    at false film = refl

shows-admit : (desk : Desk) (client : ℕ) (name : List ℕ) (period : ℤ) → Shows client None desk (step_admit desk client name period)
unfolding step_admit
shows-admit desk client name period = shows-done desk client None (admit_refusal desk client name period) (admit_effect desk client name period) (λ none. LeavesFilm-begun (unsigned_abs period) desk client name)

-- `leave`
settled-looks : (film : Option FilmState) → not (looks_alike film (option_map settled film)) ≡ option_map_or newest_differs film false
unfolding settled
settled-looks None = refl
settled-looks (Some film) = ap not (size-own film.width film.height (bytes_eq film.shown film.newest))

shows-leave : (desk : Desk) (client : ℕ) (name payload : List ℕ) → Shows client (shown_anew desk.rows client (Leave name) payload) desk (step_leave desk client name)
unfolding step_leave
shows-leave desk client name payload = shows-done desk client (shown_anew desk.rows client (Leave name) payload) (leave_refusal desk client name) (leave_effect desk client name) done
  where
    row : Option Row
    row = row_named desk.rows client name

    done : leave_refusal desk client name ≡ None → Shows client (shown_anew desk.rows client (Leave name) payload) desk (leave_effect desk client name)
    done none =
        shows-film desk.rows client name (option_map settled) (λ film. option_map_or newest_differs film false)
        (passes-kind row (when (not (option_map_or is_admitted row false)) NotAdmitted ∷ []) none).0 (settled-looks (film_named desk.rows client name))

-- `frame`
committed-whole : (film : FilmState) (frame : List ℕ) → nat_eq (length frame) (pixels_in film) ≡ true → committed film frame ≡ record film { newest = frame }
unfolding committed
committed-whole film frame fits = ap (λ (b : Bool). cond b (record film { newest = frame }) film) fits

framed-looks : (frame : List ℕ) (film : Option FilmState) → option_and_then (unless_size_fits frame) film ≡ None → not (looks_alike film (option_map (framed frame) film)) ≡ option_map_or (frame_differs frame) film false
unfolding settled
framed-looks frame None none = refl
framed-looks frame (Some film) none = by (nat_lt 0 film.period)
  where
    fits : nat_eq (length frame) (pixels_in film) ≡ true
    fits = not-false (nat_eq (length frame) (pixels_in film)) (when-none (not (nat_eq (length frame) (pixels_in film))) (FrameSize (pixels_in film) (length frame)) none)

    whole : committed film frame ≡ record film { newest = frame }
    whole = committed-whole film frame fits

    by : (b : Bool) → not (looks_alike (Some film) (Some (cond b (committed film frame) (settled (committed film frame))))) ≡ (not b && (nat_eq (length frame) (pixels_in film) && not (bytes_eq film.shown frame)))
    by true = ap (λ (f : FilmState). not (looks_alike (Some film) (Some f))) whole ∙ ap not (alike-own (Some film))
    by false =
        ap (λ (f : FilmState). not (looks_alike (Some film) (Some (settled f)))) whole
        ∙ ap not (size-own film.width film.height (bytes_eq film.shown frame))
        ∙ sym (ap (λ (b : Bool). b && not (bytes_eq film.shown frame)) fits)

shows-frame : (desk : Desk) (client : ℕ) (name : List ℕ) (size : ℕ) (payload : List ℕ) → Shows client (shown_anew desk.rows client (SendFrame name size) payload) desk (step_frame desk client name payload)
unfolding step_frame
shows-frame desk client name size payload = shows-done desk client (shown_anew desk.rows client (SendFrame name size) payload) (frame_refusal desk client name payload) (frame_effect desk client name payload) done
  where
    row : Option Row
    row = row_named desk.rows client name

    film : Option FilmState
    film = film_named desk.rows client name

    done : frame_refusal desk client name payload ≡ None → Shows client (shown_anew desk.rows client (SendFrame name size) payload) desk (frame_effect desk client name payload)
    done none =
        let kind = passes-kind row (unless_film film ∷ option_and_then (unless_size_fits payload) film ∷ []) none in
        let mode = passed (unless_film film) (option_and_then (unless_size_fits payload) film ∷ []) kind.1 in
        let size = passed (option_and_then (unless_size_fits payload) film) [] mode.1 in
        shows-film desk.rows client name (option_map (framed payload)) (λ film. option_map_or (frame_differs payload) film false) kind.0 (framed-looks payload film size.0)

shows-poll : (desk : Desk) (client : ℕ) → Shows client None desk (step_poll desk client)
unfolding step_poll
shows-poll desk client = rw (none-refused {X = List ℕ} (step_poll desk client).0) (ShowsAnew-none client desk.rows desk.rows (KeepFilms-same desk.rows))

shows-row : (desk : Desk) (client : ℕ) (command : Command) (payload : List ℕ) (short : Bool) → Shows client (shown_anew desk.rows client command payload) desk (row_of command payload desk client short)
unfolding step_new step_set step_get step_drop step_place step_lift step_link step_unlink step_open step_close step_top
shows-row desk client (New name kind) payload short = shows-kept desk client (new_refusal desk client name kind short) (new_effect desk client name kind) (KeepFilms-push desk.rows (new_row client name kind))
shows-row desk client (Set name options) payload short = shows-kept desk client (set_refusal desk client name options) (set_effect desk client name options) (KeepFilms-named desk.rows client name (with_attrs options) (LeavesFilm-attrs options))
shows-row desk client (Get name attr) payload short = shows-kept desk client (get_refusal desk client name attr) (get_effect desk client name attr) (KeepFilms-same desk.rows)
shows-row desk client (Place parent child options) payload short =
    shows-kept desk client (place_refusal desk client parent child options) (place_effect desk client parent child options)
    (KeepFilms-named desk.rows client child (with_attached (Some (parent, cell_given options))) (record { names = record { client = λ row. refl; name = λ row. refl }; film = λ row. refl }))
shows-row desk client (Lift parent child) payload short =
    shows-kept desk client (lift_refusal desk client parent child) (lift_effect desk client child)
    (KeepFilms-named desk.rows client child (with_attached None) (record { names = record { client = λ row. refl; name = λ row. refl }; film = λ row. refl }))
shows-row desk client (ColumnConfig name index options) payload short = shows-track Across desk client name index options
shows-row desk client (RowConfig name index options) payload short = shows-track Down desk client name index options
shows-row desk client (Link name variable) payload short =
    shows-kept desk client (link_refusal desk client name variable) (link_effect desk client name variable)
    (KeepFilms-named desk.rows client name (with_link (Some variable)) (record { names = record { client = λ row. refl; name = λ row. refl }; film = λ row. refl }))
shows-row desk client (Unlink name) payload short =
    shows-kept desk client (unlink_refusal desk client name) (unlink_effect desk client name)
    (KeepFilms-named desk.rows client name (with_link None) (record { names = record { client = λ row. refl; name = λ row. refl }; film = λ row. refl }))
shows-row desk client (Bind name event tag) payload short = shows-bind desk client name event (Some tag)
shows-row desk client (Unbind name event) payload short = shows-bind desk client name event None
shows-row desk client (OpenWindow name) payload short = shows-kept desk client (open_refusal desk client name) (open_effect desk client name) (KeepFilms-same desk.rows)
shows-row desk client (CloseWindow name) payload short = shows-kept desk client (unless_open desk client name) (close_effect desk client name) (KeepFilms-same desk.rows)
shows-row desk client (TopWindow name) payload short = shows-kept desk client (unless_open desk client name) (top_effect desk client name) (KeepFilms-same desk.rows)
shows-row desk client (DropWidget name) payload short = shows-kept desk client (drop_refusal desk client name) (drop_effect desk client name) (KeepFilms-without desk.rows client name)
shows-row desk client (Mode name w h) payload short = shows-mode desk client name w h payload short
shows-row desk client (Admit name period) payload short = shows-admit desk client name period
shows-row desk client (Leave name) payload short = shows-leave desk client name payload
shows-row desk client (SendFrame name size) payload short = shows-frame desk client name size payload
shows-row desk client Poll payload short = shows-poll desk client

rows-let_go : (desk : Desk) → (let_go desk).rows ≡ desk.rows
unfolding let_go
rows-let_go desk = refl

pub commands_show_anew : CommandsShowAnew
unfolding step
commands_show_anew desk client command payload short = ended (outcome desk (when (not (is_connected desk client)) NotConnected) row) (asked (not (is_connected desk client)))
  where
    anew : Option (List ℕ)
    anew = shown_anew desk.rows client command payload

    row : Reply × Desk
    row = row_of command payload desk client short

    asked : (b : Bool) → Shows client anew desk (outcome desk (when b NotConnected) row)
    asked true = shows-refused desk client anew NotConnected
    asked false = shows-row desk client command payload short

    ended : (done : Reply × Desk) → Shows client anew desk done → ShowsAnew client (unless_refused done.0 anew) desk.rows (let_go done.1).rows
    ended done shows = subst (ShowsAnew client (unless_refused done.0 anew) desk.rows) (sym (rows-let_go done.1)) shows

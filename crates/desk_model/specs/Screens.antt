-- The commands on VScreens: `mode`, `admit`, `leave` and `frame`. A VScreen shows the frames of its film; while it is
-- admitted with a period, a part of the budget is set aside for it.
use Rattle.std.specs.Prelude.{ℕ, ℤ, pos, ◌+◌, ◌-◌, Bool, true, false, not, nat_lt, nat_eq, List, [], ◌∷◌, ◌++◌, length, Option, Some, is_none, unsigned_abs, if◌then◌else◌}
use Rattle.std.specs.List.{filter, sum_by}
use Rattle.std.specs.Option.{option_map, option_map_or, option_and_then}
use Rattle.kind_core.specs.declared.kinds.Kind.{Kind}
use Rattle.kind_core.specs.declared.kinds.Kind.TheVariants.{VScreen}
use Rattle.cmd_words.specs.declared.replies.Reply.{Reply}
use Rattle.cmd_words.specs.declared.replies.Reply.TheVariants.{Done}
use Rattle.cmd_words.specs.declared.replies.Refusal.{Refusal}
use Rattle.cmd_words.specs.declared.replies.Refusal.TheVariants.{Memory, NoMode, Admitted, Budget, NotAdmitted, FrameSize}
use Rattle.vscreen_core.specs.FilmState.{FilmState, pixels_in, blank_film}
use Rattle.vscreen_core.specs.Band.{share_of}
use Rattle.vscreen_core.specs.Changes.{committed, begun, settled}
use Rattle.widget_model.specs.Rows.{Row, with_film}
use Rattle.widget_model.specs.Named.{row_named, with_named}
use Rattle.widget_model.specs.Trees.{is_admitted}
use Rattle.desk_model.specs.Desk.{Desk, Admission, is_admission}
use Rattle.desk_model.specs.Refusals.{when, first_refusal, outcome, unless_there, unless_kind}
use Rattle.desk_model.specs.PlaceOptions.{unless_within}

abbrev pub is_screen : Kind → Bool
is_screen VScreen = true
is_screen _ = false

-- the film of the named widget
abbrev pub film_named : List Row → ℕ → List ℕ → Option FilmState
film_named rows client name = option_and_then (λ row. row.film) (row_named rows client name)

-- the widget is a VScreen without a film
abbrev pub unless_film : Option FilmState → Option Refusal
unless_film film = when (is_none film) NoMode

-- the rows with the film of the named VScreen changed
abbrev pub with_film_changed : (FilmState → FilmState) → Row → Row
with_film_changed change row = with_film (option_map change row.film) row

-- `v.mode(w, h)`: the VScreen gets a film of that size, all its pixels 0. `short`: there is no memory for it.
abbrev pub mode_refusal : Desk → ℕ → List ℕ → ℤ → ℤ → Bool → Option Refusal
mode_refusal desk client name w h short =
    let row = row_named desk.rows client name in
    first_refusal (unless_there row ∷ unless_kind is_screen row ∷ unless_within (pos 1) (pos 256) w ∷ unless_within (pos 1) (pos 256) h ∷ when (option_map_or is_admitted row false) Admitted ∷ when short Memory ∷ [])

abbrev pub mode_effect : Desk → ℕ → List ℕ → ℤ → ℤ → Reply × Desk
mode_effect desk client name w h =
    (Done, record desk { rows = with_named client name (with_film (Some (blank_film (unsigned_abs w) (unsigned_abs h)))) desk.rows })

unfoldable pub step_mode : Desk → ℕ → List ℕ → ℤ → ℤ → Bool → Reply × Desk
step_mode desk client name w h short = outcome desk (mode_refusal desk client name w h short) (mode_effect desk client name w h)

-- the pixels that the roster may have in a tick, all shares together
abbrev pub roster_limit : Desk → ℕ
roster_limit desk = desk.shape.budget - desk.shape.spare

-- the admissions of all other VScreens, in their order
abbrev pub other_admissions : ℕ → List ℕ → List Admission → List Admission
other_admissions client name roster = filter (λ admission. not (is_admission client name admission)) roster

abbrev pub shares_of : List Admission → ℕ
shares_of roster = sum_by (λ admission. admission.share) roster

-- the share of the film under that period
abbrev pub share_wanted : FilmState → ℤ → ℕ
share_wanted film period = share_of film.width film.height (unsigned_abs period)

-- A share is refused exactly where it passes the limit together with the shares of all other VScreens.
abbrev pub unless_share_fits : Desk → ℕ → List ℕ → ℕ → Option Refusal
unless_share_fits desk client name share =
    let others = shares_of (other_admissions client name desk.roster) in
    when (nat_lt (roster_limit desk) (others + share)) (Budget share (roster_limit desk - others))

-- `v.admit(p)`: the VScreen is admitted with that period, from its first tick on, and is the last in order.
abbrev pub admit_refusal : Desk → ℕ → List ℕ → ℤ → Option Refusal
admit_refusal desk client name period =
    let row = row_named desk.rows client name in
    let film = film_named desk.rows client name in
    first_refusal (unless_there row ∷ unless_kind is_screen row ∷ unless_within (pos 1) (pos 64) period ∷ unless_film film ∷ option_and_then (λ film. unless_share_fits desk client name (share_wanted film period)) film ∷ [])

abbrev pub admission_of : Desk → ℕ → List ℕ → ℤ → Admission
admission_of desk client name period =
    record { client = client; name = name; share = option_map_or (λ film. share_wanted film period) (film_named desk.rows client name) 0 }

abbrev pub admit_effect : Desk → ℕ → List ℕ → ℤ → Reply × Desk
admit_effect desk client name period = (
  Done,
  record desk {
    rows = with_named client name (with_film_changed (λ film. begun film (unsigned_abs period))) desk.rows;
    roster = other_admissions client name desk.roster ++ admission_of desk client name period ∷ [];
  },
)

unfoldable pub step_admit : Desk → ℕ → List ℕ → ℤ → Reply × Desk
step_admit desk client name period = outcome desk (admit_refusal desk client name period) (admit_effect desk client name period)

-- `v.leave()`: the VScreen isn't admitted any more, and shows its newest frame.
abbrev pub leave_refusal : Desk → ℕ → List ℕ → Option Refusal
leave_refusal desk client name =
    let row = row_named desk.rows client name in
    first_refusal (unless_there row ∷ unless_kind is_screen row ∷ when (not (option_map_or is_admitted row false)) NotAdmitted ∷ [])

abbrev pub leave_effect : Desk → ℕ → List ℕ → Reply × Desk
leave_effect desk client name = (
  Done,
  record desk {
    rows = with_named client name (with_film_changed settled) desk.rows;
    roster = other_admissions client name desk.roster;
  },
)

unfoldable pub step_leave : Desk → ℕ → List ℕ → Reply × Desk
step_leave desk client name = outcome desk (leave_refusal desk client name) (leave_effect desk client name)

-- the film with its newest frame; where it isn't admitted, the frame is shown at once
abbrev pub framed : List ℕ → FilmState → FilmState
framed frame film = if nat_lt 0 film.period then committed film frame else settled (committed film frame)

-- `v.frame(n)` with the bytes of a frame, a byte a pixel of the film
abbrev pub unless_size_fits : List ℕ → FilmState → Option Refusal
unless_size_fits frame film = when (not (nat_eq (length frame) (pixels_in film))) (FrameSize (pixels_in film) (length frame))

abbrev pub frame_refusal : Desk → ℕ → List ℕ → List ℕ → Option Refusal
frame_refusal desk client name frame =
    let row = row_named desk.rows client name in
    let film = film_named desk.rows client name in
    first_refusal (unless_there row ∷ unless_kind is_screen row ∷ unless_film film ∷ option_and_then (unless_size_fits frame) film ∷ [])

abbrev pub frame_effect : Desk → ℕ → List ℕ → List ℕ → Reply × Desk
frame_effect desk client name frame = (Done, record desk { rows = with_named client name (with_film_changed (framed frame)) desk.rows })

unfoldable pub step_frame : Desk → ℕ → List ℕ → List ℕ → Reply × Desk
step_frame desk client name frame = outcome desk (frame_refusal desk client name frame) (frame_effect desk client name frame)

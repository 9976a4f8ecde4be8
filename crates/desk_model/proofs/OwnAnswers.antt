-- Two desks that agree on a client's part answer each of its commands alike.
use Rattle.std.proofs.Common.{◌≡◌, ℕ, ◌+◌, ◌-◌, ℤ, pos, Bool, true, nat_eq, nat_lt, List, [], ◌∷◌, Option, Some, None, refl, ap, ◌∙◌}
use Rattle.std.specs.Option.{option_and_then}
use Rattle.std.specs.Str.{bytes_eq}
use Rattle.kind_core.specs.declared.kinds.EventKind.{EventKind}
use Rattle.cmd_words.specs.declared.commands.ConfigOption.{ConfigOption}
use Rattle.cmd_words.specs.declared.commands.Command.{Command}
use Rattle.cmd_words.specs.declared.commands.Command.TheVariants.{New, Set, Get, Place, Lift, ColumnConfig, RowConfig, Link, Unlink, Bind, Unbind, OpenWindow, CloseWindow, TopWindow, Mode, Admit, Leave, SendFrame, DropWidget, Poll}
use Rattle.cmd_words.specs.declared.replies.Reply.{Reply}
use Rattle.cmd_words.specs.declared.replies.Refusal.{Refusal}
use Rattle.cmd_words.specs.declared.replies.Refusal.TheVariants.{Budget}
use Rattle.vscreen_core.specs.FilmState.{FilmState}
use Rattle.widget_model.specs.Kinds.{any_kind, counts_with}
use Rattle.widget_model.specs.Trees.{most_levels}
use Rattle.desk_model.specs.Desk.{Desk, is_open}
use Rattle.desk_model.specs.Refusals.{when, first_refusal, outcome, unless_there, unless_kind}
use Rattle.desk_model.specs.PlaceOptions.{cell_given, unless_within}
use Rattle.desk_model.specs.WidgetCommands.{new_refusal, set_refusal, get_refusal, get_effect, drop_refusal, new_effect, set_effect, drop_effect, step_new, step_set, step_get, step_drop}
use Rattle.desk_model.specs.Placement.{place_refusal, place_effect, lift_refusal, lift_effect, step_place, step_lift}
use Rattle.desk_model.specs.Tracks.{track_refusal, track_effect, step_track}
use Rattle.desk_model.specs.Links.{link_refusal, link_effect, unlink_refusal, unlink_effect, step_link, step_unlink}
use Rattle.desk_model.specs.Bindings.{bind_refusal, bind_effect, step_bind}
use Rattle.desk_model.specs.Windows.{open_refusal, open_effect, step_open, unless_open, close_effect, step_close, top_effect, step_top}
use Rattle.kind_core.specs.declared.shapes.Shape.{Shape}
use Rattle.bind_core.specs.Ring.{RingState}
use Rattle.bind_core.specs.Polling.{poll_answer}
use Rattle.widget_model.specs.Rows.{Row}
use Rattle.widget_model.specs.Named.{row_named}
use Rattle.desk_model.specs.Screens.{is_screen, shares_of, other_admissions, roster_limit, share_wanted, unless_share_fits, unless_film, mode_refusal, mode_effect, step_mode, admit_refusal, admit_effect, step_admit, leave_refusal, leave_effect, step_leave, frame_refusal, frame_effect, step_frame}
use Rattle.desk_model.specs.Polling.{poll_reply, step_poll}
use Rattle.scene_model.specs.declared.axis.Axis.{Axis}
use Rattle.scene_model.specs.declared.axis.Axis.TheVariants.{Across, Down}
use Rattle.desk_model.specs.Commands.{row_of}
use Rattle.desk_model.specs.DeskFacts.{IsRosterOf, IsDesk}
use Rattle.desk_model.specs.OwnPart.{AgreeOn, AgreeOnShares, is_admit}
use Rattle.desk_model.proofs.OwnShares.{other_shares-agree}
use Rattle.widget_model.proofs.OwnRows.{list_any-agree, row_named-agree, rows_counted-agree, child_in-agree, depth_in-agree, is_above_in-agree, height_in-agree, named-is_used-agree}

-- one refusal, or effects of one reply
pub answer-outcome : (one two : Desk) (here there : Option Refusal) (first second : Reply × Desk) → here ≡ there → first.0 ≡ second.0 → (outcome one here first).0 ≡ (outcome two there second).0
answer-outcome one two None None first second refusals replies = replies
answer-outcome one two None (Some there) first second refusals replies = absurd (cc)
answer-outcome one two (Some here) None first second refusals replies = absurd (cc)
answer-outcome one two (Some here) (Some there) first second refusals replies = cc

is_open-agree : (client : ℕ) (name : List ℕ) (one two : Desk) → AgreeOn client one two → is_open one client name ≡ is_open two client name
is_open-agree client name one two agree =
    list_any-agree (λ (window : ℕ × List ℕ). nat_eq client window.0) (λ (window : ℕ × List ℕ). bytes_eq name window.1) one.windows two.windows agree.windows

answer-track : (axis : Axis) (one two : Desk) (client : ℕ) (name : List ℕ) (index : ℤ) (options : List (ConfigOption × ℤ)) → AgreeOn client one two → (step_track axis one client name index options).0 ≡ (step_track axis two client name index options).0
unfolding step_track
answer-track axis one two client name index options agree =
    answer-outcome one two (track_refusal one client name index options) (track_refusal two client name index options) (track_effect axis one client name index options) (track_effect axis two client name index options)
    (rw (row_named-agree client name one.rows two.rows agree.rows) refl) refl

answer-bind : (one two : Desk) (client : ℕ) (name : List ℕ) (event : EventKind) (tag : Option (List ℕ)) → AgreeOn client one two → (step_bind one client name event tag).0 ≡ (step_bind two client name event tag).0
unfolding step_bind
answer-bind one two client name event tag agree =
    answer-outcome one two (bind_refusal one client name event) (bind_refusal two client name event) (bind_effect one client name event tag) (bind_effect two client name event tag)
    (rw (row_named-agree client name one.rows two.rows agree.rows) refl) refl

-- the refusal of a share by the limit and by the shares of the others together
abbrev unless_total : ℕ → ℕ → ℕ → Option Refusal
unless_total limit others share = when (nat_lt limit (others + share)) (Budget share (limit - others))

-- The shares of all but one VScreen are the same together, and so is the limit.
answer-admit : (one two : Desk) (client : ℕ) (name : List ℕ) (period : ℤ) → IsDesk one → IsDesk two → AgreeOn client one two → AgreeOnShares client one two → (step_admit one client name period).0 ≡ (step_admit two client name period).0
unfolding step_admit
answer-admit one two client name period is_one is_two agree shares =
    answer-outcome one two (admit_refusal one client name period) (admit_refusal two client name period) (admit_effect one client name period) (admit_effect two client name period)
    (ap (λ (row : Option Row). judged one row) (row_named-agree client name one.rows two.rows agree.rows) ∙ same (row_named two.rows client name)) refl
  where
    -- the refusal, by the row
    judged : Desk → Option Row → Option Refusal
    judged desk row =
        let film = option_and_then (λ (row : Row). row.film) row in
        first_refusal (unless_there row ∷ unless_kind is_screen row ∷ unless_within (pos 1) (pos 64) period ∷ unless_film film ∷ option_and_then (λ film. unless_share_fits desk client name (share_wanted film period)) film ∷ [])

    limit : roster_limit one ≡ roster_limit two
    limit = ap (λ (shape : Shape). shape.budget - shape.spare) agree.shape

    kept : IsRosterOf (roster_limit one) two.rows two.roster
    kept = rw limit is_two.roster

    others : shares_of (other_admissions client name one.roster) ≡ shares_of (other_admissions client name two.roster)
    others = other_shares-agree client name (roster_limit one) one.rows two.rows one.roster two.roster is_one.rows.names is_two.rows.names is_one.roster kept agree.rows shares

    fits : (share : ℕ) → unless_share_fits one client name share ≡ unless_share_fits two client name share
    fits share = ap (λ (most : ℕ). unless_total most (shares_of (other_admissions client name one.roster)) share) limit ∙ ap (λ (total : ℕ). unless_total (roster_limit two) total share) others

    same : (row : Option Row) → judged one row ≡ judged two row
    same row = ap (λ (last : Option Refusal). first_refusal (unless_there row ∷ unless_kind is_screen row ∷ unless_within (pos 1) (pos 64) period ∷ unless_film (option_and_then (λ (row : Row). row.film) row) ∷ last ∷ [])) (last (option_and_then (λ (row : Row). row.film) row))
      where
        last : (film : Option FilmState) → option_and_then (λ film. unless_share_fits one client name (share_wanted film period)) film ≡ option_and_then (λ film. unless_share_fits two client name (share_wanted film period)) film
        last None = refl
        last (Some film) = fits (share_wanted film period)

-- each row
pub answer-row : (one two : Desk) (client : ℕ) (command : Command) (payload : List ℕ) (short : Bool) → IsDesk one → IsDesk two → AgreeOn client one two → (is_admit command ≡ true → AgreeOnShares client one two) → (row_of command payload one client short).0 ≡ (row_of command payload two client short).0
unfolding step_new step_set step_get step_drop step_place step_lift step_link step_unlink step_open step_close step_top step_mode step_leave step_frame step_poll
answer-row one two client (New name kind) payload short is_one is_two agree shares =
    answer-outcome one two (new_refusal one client name kind short) (new_refusal two client name kind short) (new_effect one client name kind) (new_effect two client name kind)
    (rw (row_named-agree client name one.rows two.rows agree.rows, rows_counted-agree client any_kind one.rows two.rows agree.rows, rows_counted-agree client (counts_with kind) one.rows two.rows agree.rows) refl) refl
answer-row one two client (Set name options) payload short is_one is_two agree shares =
    answer-outcome one two (set_refusal one client name options) (set_refusal two client name options) (set_effect one client name options) (set_effect two client name options)
    (rw (row_named-agree client name one.rows two.rows agree.rows) refl) refl
answer-row one two client (Get name attr) payload short is_one is_two agree shares =
    answer-outcome one two (get_refusal one client name attr) (get_refusal two client name attr) (get_effect one client name attr) (get_effect two client name attr)
    (rw (row_named-agree client name one.rows two.rows agree.rows) refl) (rw (row_named-agree client name one.rows two.rows agree.rows) refl)
answer-row one two client (Place parent child options) payload short is_one is_two agree shares =
    answer-outcome one two (place_refusal one client parent child options) (place_refusal two client parent child options) (place_effect one client parent child options) (place_effect two client parent child options)
    (rw (
      row_named-agree client parent one.rows two.rows agree.rows,
      row_named-agree client child one.rows two.rows agree.rows,
      is_above_in-agree most_levels client child parent one.rows two.rows agree.rows,
      depth_in-agree most_levels client parent one.rows two.rows agree.rows,
      height_in-agree most_levels client child one.rows two.rows agree.rows,
      child_in-agree client parent (cell_given options).column (cell_given options).row one.rows two.rows agree.rows,
    ) refl) refl
answer-row one two client (Lift parent child) payload short is_one is_two agree shares =
    answer-outcome one two (lift_refusal one client parent child) (lift_refusal two client parent child) (lift_effect one client child) (lift_effect two client child)
    (rw (row_named-agree client parent one.rows two.rows agree.rows, row_named-agree client child one.rows two.rows agree.rows) refl) refl
answer-row one two client (ColumnConfig name index options) payload short is_one is_two agree shares = answer-track Across one two client name index options agree
answer-row one two client (RowConfig name index options) payload short is_one is_two agree shares = answer-track Down one two client name index options agree
answer-row one two client (Link name variable) payload short is_one is_two agree shares =
    answer-outcome one two (link_refusal one client name variable) (link_refusal two client name variable) (link_effect one client name variable) (link_effect two client name variable)
    (rw (row_named-agree client name one.rows two.rows agree.rows, row_named-agree client variable one.rows two.rows agree.rows) refl) refl
answer-row one two client (Unlink name) payload short is_one is_two agree shares =
    answer-outcome one two (unlink_refusal one client name) (unlink_refusal two client name) (unlink_effect one client name) (unlink_effect two client name)
    (rw (row_named-agree client name one.rows two.rows agree.rows) refl) refl
answer-row one two client (Bind name event tag) payload short is_one is_two agree shares = answer-bind one two client name event (Some tag) agree
answer-row one two client (Unbind name event) payload short is_one is_two agree shares = answer-bind one two client name event None agree
answer-row one two client (OpenWindow name) payload short is_one is_two agree shares =
    answer-outcome one two (open_refusal one client name) (open_refusal two client name) (open_effect one client name) (open_effect two client name)
    (rw (row_named-agree client name one.rows two.rows agree.rows, is_open-agree client name one two agree) refl) refl
answer-row one two client (CloseWindow name) payload short is_one is_two agree shares =
    answer-outcome one two (unless_open one client name) (unless_open two client name) (close_effect one client name) (close_effect two client name)
    (rw (row_named-agree client name one.rows two.rows agree.rows, is_open-agree client name one two agree) refl) refl
answer-row one two client (TopWindow name) payload short is_one is_two agree shares =
    answer-outcome one two (unless_open one client name) (unless_open two client name) (top_effect one client name) (top_effect two client name)
    (rw (row_named-agree client name one.rows two.rows agree.rows, is_open-agree client name one two agree) refl) refl
answer-row one two client (Mode name w h) payload short is_one is_two agree shares =
    answer-outcome one two (mode_refusal one client name w h short) (mode_refusal two client name w h short) (mode_effect one client name w h) (mode_effect two client name w h)
    (rw (row_named-agree client name one.rows two.rows agree.rows) refl) refl
answer-row one two client (Admit name period) payload short is_one is_two agree shares = answer-admit one two client name period is_one is_two agree (shares refl)
answer-row one two client (Leave name) payload short is_one is_two agree shares =
    answer-outcome one two (leave_refusal one client name) (leave_refusal two client name) (leave_effect one client name) (leave_effect two client name)
    (rw (row_named-agree client name one.rows two.rows agree.rows) refl) refl
answer-row one two client (SendFrame name size) payload short is_one is_two agree shares =
    answer-outcome one two (frame_refusal one client name payload) (frame_refusal two client name payload) (frame_effect one client name payload) (frame_effect two client name payload)
    (rw (row_named-agree client name one.rows two.rows agree.rows) refl) refl
answer-row one two client (DropWidget name) payload short is_one is_two agree shares =
    answer-outcome one two (drop_refusal one client name) (drop_refusal two client name) (drop_effect one client name) (drop_effect two client name)
    (rw (named-is_used-agree client name one.rows two.rows agree.rows, row_named-agree client name one.rows two.rows agree.rows, is_open-agree client name one two agree) refl) refl
answer-row one two client Poll payload short is_one is_two agree shares = ap (λ (ring : RingState). poll_reply (poll_answer ring)) agree.events

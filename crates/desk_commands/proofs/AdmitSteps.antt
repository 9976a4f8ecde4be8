-- What `mode`, `frame`, `admit` and `leave` do, where nothing is refused or the last refusal holds.
use Rattle.std.proofs.Common.{◌≡◌, ◌+◌, ◌-◌, ◌<◌, ℕ, ℤ, unsigned_abs, Bool, true, false, cond, nat_lt, nat_le, List, [], ◌∷◌, ◌++◌, length, Option, Some, None, Result, Ok, Err, is_some, refl, sym, ap, ap₂, ◌∙◌, subst, arith}
use Rattle.std.proofs.lemmas.Bool.{eq-eqb, leb-true, leb-false, lt-ltb, ltb-true, false_from_ne_true}
use Rattle.std.specs.List.{list_all}
use Rattle.std.specs.Option.{option_map_or, option_and_then}
use Rattle.kind_core.specs.declared.kinds.Kind.TheVariants.{VScreen}
use Rattle.cmd_words.specs.declared.replies.Reply.{Reply}
use Rattle.cmd_words.specs.declared.replies.Reply.TheVariants.{Done, Refused}
use Rattle.cmd_words.specs.declared.replies.Refusal.{Refusal}
use Rattle.cmd_words.specs.declared.replies.Refusal.TheVariants.{Budget}
use Rattle.admit_core.specs.declared.over_budget.OverBudget.{OverBudget}
use Rattle.admit_core.specs.Roster.{RosterState, IsRoster, others, total}
use Rattle.admit_core.specs.Admission.{fits, left_for, admitted, admit_answer, dismissed}
use Rattle.vscreen_core.specs.FilmState.{FilmState, pixels_in}
use Rattle.vscreen_core.specs.Changes.{begun, settled}
use Rattle.widget_model.specs.Rows.{Row}
use Rattle.widget_model.specs.Nodes.{Node, node_at, id_named}
use Rattle.widget_model.specs.Named.{row_named, with_named}
use Rattle.widget_model.specs.Trees.{is_admitted}
use Rattle.widget_model.specs.Widgets.{Widgets, nodes, rows_of, edited}
use Rattle.widget_model.specs.Forest.{IsWidgets}
use Rattle.widget_model.proofs.Naming.{rows-with_row}
use Rattle.tree_core.proofs.ForestLemmas.{nodes-with_row, live-with_row}
use Rattle.desk_model.specs.Desk.{Desk, Admission}
use Rattle.desk_model.specs.Refusals.{when, first_refusal}
use Rattle.desk_model.specs.Screens.{with_film_changed, frame_refusal, shares_of, other_admissions, share_wanted, unless_share_fits, admission_of, admit_refusal, step_admit, step_leave}
use Rattle.desk_commands.specs.Parts.{admission_at, admissions_at, is_live_entry, AreListed, ListsAdmitted, HasLimitOf}
use Rattle.desk_commands.specs.Effects.{with_admissions, DidListed}
use Rattle.desk_commands.specs.Lookup.{IsFound}
use Rattle.desk_commands.specs.Screens.{IsWanted}
use Rattle.desk_commands.proofs.Admissions.{admissions-others, shares-total, admissions-push, live-others, live-push, live-changed, admitted-live}
use Rattle.desk_commands.proofs.ScreenSteps.{frame_refusal-by, admit_refusal-by, step_admit-by, step_leave-by}
use Rattle.desk_commands.proofs.WindowSteps.{found-title}

-- a frame of the film's size isn't refused
pub framed_allowed : (desk : Desk) (client : ℕ) (name frame : List ℕ) (row : Row) (film : FilmState) → row_named desk.rows client name ≡ Some row → row.kind ≡ VScreen → row.film ≡ Some film → length frame ≡ pixels_in film → frame_refusal desk client name frame ≡ None
framed_allowed desk client name frame row film named kind has size =
    frame_refusal-by desk client name frame (Some row) named ∙ rw (kind, has, eq-eqb (length frame) (pixels_in film) size) refl

-- a step that leaves the widgets and the roster
pub listed_refused : (step : Desk → Reply × Desk) (w : Widgets) (roster : RosterState) (reply : Reply) (refusal : Refusal) → ListsAdmitted w.entries roster → reply ≡ Refused refusal
    → ((desk : Desk) → HasLimitOf desk.shape roster → step (with_admissions (rows_of w) (admissions_at (nodes w.entries) roster.entries) desk) ≡ (Refused refusal, with_admissions (rows_of w) (admissions_at (nodes w.entries) roster.entries) desk))
    → DidListed step w w roster roster reply
listed_refused step w roster reply refusal lists replied answer =
    record {
      answer = λ desk limit. ap (λ (r : Reply). (r, with_admissions (rows_of w) (admissions_at (nodes w.entries) roster.entries) desk)) replied ∙ sym (answer desk limit);
      clients = refl;
      kept = λ id there. refl;
      limit = refl;
      listed = record { valid = lists.valid; live = admitted-live w.entries roster.entries lists.admitted };
      places = refl;
    }

-- one that changes the film of the VScreen that was found, and the roster
pub listed_edited : (step : Desk → Reply × Desk) (w new : Widgets) (client : ℕ) (name : List ℕ) (key : ℕ) (change : FilmState → FilmState) (roster roster' : RosterState) (reply is : Reply) → reply ≡ is → new ≡ edited key (with_film_changed change) w → IsWidgets w → id_named (nodes w.entries) client name ≡ Some key → roster'.limit ≡ roster.limit → AreListed w.entries roster'
    → ((desk : Desk) → HasLimitOf desk.shape roster → step (with_admissions (rows_of w) (admissions_at (nodes w.entries) roster.entries) desk) ≡ (is, with_admissions (with_named client name (with_film_changed change) (rows_of w)) (admissions_at (nodes w.entries) roster'.entries) desk))
    → DidListed step w new roster roster' reply
listed_edited step w new client name key change roster roster' reply is replied left kept id limit listed answer =
    let P : Widgets → Type 0 = λ v. DidListed step w v roster roster' reply in
    let same : nodes (edited key (with_film_changed change) w).entries ≡ nodes w.entries = nodes-with_row w.entries key (with_film_changed change) (λ row. refl) in
    subst P (sym left)
    (record {
      answer = λ desk right.
          ap₂ (λ (rs : List Row) (ns : List (ℕ × Node)). (reply, with_admissions rs (admissions_at ns roster'.entries) desk)) (rows-with_row w.entries client name key (with_film_changed change) kept.numbered.own_numbers kept.rows.names id) same
          ∙ ap (λ (r : Reply). (r, with_admissions (with_named client name (with_film_changed change) (rows_of w)) (admissions_at (nodes w.entries) roster'.entries) desk)) replied
          ∙ sym (answer desk right);
      clients = refl;
      kept = λ other there. ap (λ (ns : List (ℕ × Node)). node_at ns other) same;
      limit = limit;
      listed = record { valid = listed.valid; live = live-changed w.entries (edited key (with_film_changed change) w).entries roster'.entries (live-with_row w.entries key (with_film_changed change)) listed.live };
      places = refl;
    })

-- `leave`
pub leave_did : (w new : Widgets) (client : ℕ) (name : List ℕ) (key : ℕ) (roster roster' : RosterState) (reply : Reply) → ListsAdmitted w.entries roster → IsWidgets w → (found : IsFound w client name key VScreen) → is_admitted found.row ≡ true → new ≡ edited key (with_film_changed settled) w → roster' ≡ dismissed roster key → IsRoster roster' → reply ≡ Done → DidListed (λ desk. step_leave desk client name) w new roster roster' reply
unfolding dismissed
leave_did w new client name key roster roster' reply lists kept found admitted left gone valid replied =
    let live = admitted-live w.entries roster.entries lists.admitted in
    let entries : roster'.entries ≡ others key roster.entries = ap (λ (r : RosterState). r.entries) gone in
    let named = admissions-others w client name key VScreen kept.rows.names found roster.entries live in
    listed_edited (λ desk. step_leave desk client name) w new client name key settled roster roster' reply Done replied left kept found.id (ap (λ (r : RosterState). r.limit) gone)
    (record { valid = valid; live = ap (list_all (is_live_entry w.entries)) entries ∙ live-others w.entries key roster.entries live })
    (λ desk limit.
    step_leave-by (with_admissions (rows_of w) (admissions_at (nodes w.entries) roster.entries) desk) client name (Some found.row) found.named
    ∙ rw (found.has, admitted) refl
    ∙ ap (λ (rest : List Admission). (Done, with_admissions (with_named client name (with_film_changed settled) (rows_of w)) rest desk)) (sym named ∙ ap (admissions_at (nodes w.entries)) (sym entries)))

-- `admit`
module _ (w : Widgets) (client : ℕ) (name : List ℕ) (period : ℤ) (key share : ℕ) (changed : Bool) (roster : RosterState) (lists : ListsAdmitted w.entries roster) (kept : IsWidgets w) (wanted : IsWanted w client name period key share changed) where
  abbrev was : Desk → Desk
  was desk = with_admissions (rows_of w) (admissions_at (nodes w.entries) roster.entries) desk

  live : list_all (is_live_entry w.entries) roster.entries ≡ true
  live = admitted-live w.entries roster.entries lists.admitted

  named : admissions_at (nodes w.entries) (others key roster.entries) ≡ other_admissions client name (admissions_at (nodes w.entries) roster.entries)
  named = admissions-others w client name key VScreen kept.rows.names wanted.found roster.entries live

  -- what the others' shares are together
  shares : shares_of (other_admissions client name (admissions_at (nodes w.entries) roster.entries)) ≡ total (others key roster.entries)
  shares = ap shares_of (sym named) ∙ shares-total (nodes w.entries) (others key roster.entries)

  refusal : (desk : Desk) → HasLimitOf desk.shape roster → admit_refusal (was desk) client name period ≡ first_refusal (when (nat_lt roster.limit (total (others key roster.entries) + share)) (Budget share (roster.limit - total (others key roster.entries))) ∷ [])
  refusal desk limit =
      admit_refusal-by (was desk) client name period (Some wanted.found.row) wanted.found.named
      ∙ rw (wanted.found.has, wanted.within, wanted.has) refl
      ∙ ap (λ (n : ℕ). first_refusal (unless_share_fits (was desk) client name n ∷ [])) (sym wanted.share_is)
      ∙ ap₂ (λ (most rest : ℕ). first_refusal (when (nat_lt most (rest + share)) (Budget share (most - rest)) ∷ [])) (sym limit) shares

  -- the VScreen's admission with that share
  abbrev own : ℕ → Admission
  own n = record { client = client; name = name; share = n }

  -- a share that doesn't fit
  pub admit_over : (roster' : RosterState) (over : OverBudget) (reply : Reply) → roster' ≡ admitted roster key share → Err over ≡ admit_answer roster key share → reply ≡ Refused (Budget over.need over.left) → DidListed (λ desk. step_admit desk client name period) w w roster roster' reply
  unfolding admitted admit_answer fits left_for
  admit_over roster' over reply left told replied = by (nat_le (total (others key roster.entries) + share) roster.limit) refl left told
    where
      rest : ℕ
      rest = total (others key roster.entries)

      by : (b : Bool) → nat_le (rest + share) roster.limit ≡ b
          → roster' ≡ cond b (record roster { entries = others key roster.entries ++ (key, share) ∷ [] }) roster
          → ◌≡◌ {A = Result (Unit {0}) OverBudget} (Err over) (cond b (Ok tt) (Err (record { need = share; left = roster.limit - rest })))
          → DidListed (λ desk. step_admit desk client name period) w w roster roster' reply
      by true q left told = absurd (cc)
      by false q left told =
          let over_is : ◌≡◌ {A = OverBudget} over (record { need = share; left = roster.limit - rest }) = cc in
          let past : nat_lt roster.limit (rest + share) ≡ true = lt-ltb roster.limit (rest + share) (beyond q) in
          let P : RosterState → Type 0 = λ r. DidListed (λ desk. step_admit desk client name period) w w roster r reply in
          subst P (sym left)
          (listed_refused (λ desk. step_admit desk client name period) w roster reply (Budget share (roster.limit - rest)) lists
          (replied ∙ ap (λ (o : OverBudget). Refused (Budget o.need o.left)) over_is)
          (λ desk limit. step_admit-by (was desk) client name period (Some (Budget share (roster.limit - rest))) (refusal desk limit ∙ rw past refl)))
        where
          beyond : nat_le (rest + share) roster.limit ≡ false → roster.limit < rest + share
          beyond h = leb-false (rest + share) roster.limit h

  -- one that does
  pub admit_did : (new : Widgets) (roster' : RosterState) (reply : Reply) → roster' ≡ admitted roster key share → Ok tt ≡ admit_answer roster key share → IsRoster roster' → new ≡ edited key (with_film_changed (λ film. begun film (unsigned_abs period))) w → reply ≡ Done → DidListed (λ desk. step_admit desk client name period) w new roster roster' reply
  unfolding admitted admit_answer fits left_for
  admit_did new roster' reply left told valid edit replied = by (nat_le (total (others key roster.entries) + share) roster.limit) refl left told
    where
      rest : ℕ
      rest = total (others key roster.entries)

      mine : admission_at (nodes w.entries) (key, share) ≡ own share
      mine = ap (λ (t : ℕ × List ℕ). let a : Admission = record { client = t.0; name = t.1; share = share } in a) (found-title w client name key VScreen wanted.found)

      given : (desk : Desk) → admission_of (was desk) client name period ≡ own share
      given desk =
          ap (λ (o : Option Row). own (option_map_or (λ (film : FilmState). share_wanted film period) (option_and_then (λ (row : Row). row.film) o) 0)) wanted.found.named
          ∙ ap (λ (o : Option FilmState). own (option_map_or (λ (film : FilmState). share_wanted film period) o 0)) wanted.has
          ∙ ap own (sym wanted.share_is)

      by : (b : Bool) → nat_le (rest + share) roster.limit ≡ b
          → roster' ≡ cond b (record roster { entries = others key roster.entries ++ (key, share) ∷ [] }) roster
          → ◌≡◌ {A = Result (Unit {0}) OverBudget} (Ok tt) (cond b (Ok tt) (Err (record { need = share; left = roster.limit - rest })))
          → DidListed (λ desk. step_admit desk client name period) w new roster roster' reply
      by false q left told = absurd (cc)
      by true q left told =
          let entries : roster'.entries ≡ others key roster.entries ++ (key, share) ∷ [] = ap (λ (r : RosterState). r.entries) left in
          let fine : nat_lt roster.limit (rest + share) ≡ false = false_from_ne_true _ (λ h. absurd (omega (arith, ltb-true roster.limit (rest + share) h, leb-true (rest + share) roster.limit q))) in
          let here : is_live_entry w.entries (key, share) ≡ true = ap is_some wanted.found.there in
          let all : admissions_at (nodes w.entries) roster'.entries ≡ other_admissions client name (admissions_at (nodes w.entries) roster.entries) ++ own share ∷ [] =
          ap (admissions_at (nodes w.entries)) entries ∙ admissions-push (nodes w.entries) (others key roster.entries) (key, share) ∙ ap₂ (λ (as_named : List Admission) (a : Admission). as_named ++ a ∷ []) named mine in
          listed_edited (λ desk. step_admit desk client name period) w new client name key (λ film. begun film (unsigned_abs period)) roster roster' reply Done replied edit kept wanted.found.id (ap (λ (r : RosterState). r.limit) left)
          (record { valid = valid; live = ap (list_all (is_live_entry w.entries)) entries ∙ live-push w.entries (others key roster.entries) (key, share) (live-others w.entries key roster.entries live) here })
          (λ desk limit.
          step_admit-by (was desk) client name period None (refusal desk limit ∙ rw fine refl)
          ∙ ap (λ (a : Admission). (Done, with_admissions (with_named client name (with_film_changed (λ film. begun film (unsigned_abs period))) (rows_of w)) (other_admissions client name (admissions_at (nodes w.entries) roster.entries) ++ a ∷ []) desk)) (given desk)
          ∙ ap (λ (rest : List Admission). (Done, with_admissions (with_named client name (with_film_changed (λ film. begun film (unsigned_abs period))) (rows_of w)) rest desk)) (sym all))

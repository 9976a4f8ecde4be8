-- The commands on VScreens leave a sound desk.
use Rattle.std.proofs.Common.{◌≡◌, ℕ, ◌+◌, ◌<◌, ◌≤◌, ℤ, pos, unsigned_abs, Bool, true, false, cond, ◌==◌, nat_lt, is_none, length, List, [], ◌∷◌, ◌++◌, Option, Some, None, refl, sym, ap, ◌∙◌, arith}
use Rattle.std.proofs.lemmas.Bool.{true≢false, and_from, lt-ltb, ltb-false}
use Rattle.std.specs.Prelude.{IfSome}
use Rattle.std.specs.Cmp.{nat_eq_equiv}
use Rattle.std.specs.Option.{option_map, option_map_or, option_and_then}
use Rattle.kind_core.specs.declared.kinds.Kind.{Kind}
use Rattle.kind_core.specs.declared.kinds.Kind.TheVariants.{VScreen}
use Rattle.cmd_words.specs.declared.replies.Refusal.{Refusal}
use Rattle.cmd_words.specs.declared.replies.Refusal.TheVariants.{Memory, Admitted, NoMode}
use Rattle.vscreen_core.specs.FilmState.{FilmState, IsFilm, pixels_in, blank_film}
use Rattle.vscreen_core.specs.Band.{share_of}
use Rattle.vscreen_core.specs.Changes.{committed, begun, settled}
use Rattle.vscreen_core.proofs.Films.{IsFilm-committed, IsFilm-begun, IsFilm-settled, IsFilm-blank_film}
use Rattle.widget_model.specs.Rows.{Row, with_film}
use Rattle.widget_model.specs.Named.{row_named, with_named, is_kind_of}
use Rattle.widget_model.specs.Trees.{is_admitted}
use Rattle.widget_model.specs.Planted.{IsPlanted}
use Rattle.widget_model.specs.Fitting.{IsFitFilm}
use Rattle.widget_model.proofs.Leaves.{LeavesNode}
use Rattle.widget_model.proofs.Planting.{IsPlanted-change}
use Rattle.widget_model.proofs.Hanging.{LeavesNames}
use Rattle.desk_model.specs.Desk.{Desk}
use Rattle.desk_model.specs.Refusals.{when, unless_there, unless_kind}
use Rattle.desk_model.specs.PlaceOptions.{unless_within}
use Rattle.desk_model.specs.Screens.{is_screen, film_named, unless_film, with_film_changed, mode_refusal, mode_effect, step_mode, roster_limit, other_admissions, shares_of, share_wanted, unless_share_fits, admit_refusal, admission_of, admit_effect, step_admit, leave_refusal, leave_effect, step_leave, framed, frame_refusal, frame_effect, step_frame}
use Rattle.desk_model.specs.DeskFacts.{IsRosterOf}
use Rattle.desk_model.proofs.Sound.{IsSound, IsSound-outcome}
use Rattle.desk_model.proofs.Rosters.{set_aside, share_in, has_share, share_in-none}
use Rattle.desk_model.proofs.Admissions.{IsRosterOf-admit, IsRosterOf-leave}
use Rattle.widget_model.proofs.ChangedRows.{Suits}
use Rattle.desk_model.proofs.KeptRows.{IsSound-with_roster, IsSound-with_named}
use Rattle.desk_model.proofs.Refusals.{passed, when-none, unless_there-none, unless_kind-none, unless_within-none}

is_screen-kind : (kind : Kind) → is_screen kind ≡ true → kind ≡ VScreen
is_screen-kind VScreen h = refl
is_screen-kind _ h = absurd (true≢false (sym h))

is_none-false : {X : Type 0} (o : Option X) → is_none o ≡ false → (x : X) × (o ≡ Some x)
is_none-false None h = absurd (true≢false h)
is_none-false (Some x) h = (x, refl)

-- a change of the row's film alone, by what it was
abbrev refilmed : (Option FilmState → Option FilmState) → Row → Row
refilmed give row = with_film (give row.film) row

LeavesNode-refilmed : (give : Option FilmState → Option FilmState) → LeavesNode (refilmed give)
LeavesNode-refilmed give = record { client = λ row. refl; name = λ row. refl; kind = λ row. refl }

LeavesNames-refilmed : (give : Option FilmState → Option FilmState) → LeavesNames (refilmed give)
LeavesNames-refilmed give = record { client = λ row. refl; name = λ row. refl }

Suits-refilmed : (rows : List Row) (client : ℕ) (name : List ℕ) (row : Row) (give : Option FilmState → Option FilmState) → IsPlanted rows → (IsFitFilm row → IsFitFilm (refilmed give row)) → Suits rows client name row (refilmed give)
Suits-refilmed rows client name row give planted fit =
    record {
      leaves = LeavesNode-refilmed give;
      planted = IsPlanted-change rows client name (refilmed give) (record { leaves = LeavesNode-refilmed give; attached = λ row. refl }) planted;
      linked = λ h. h;
      fitting = λ h. h;
      films = fit;
    }

-- a film that is changed to a whole one is fit
pub IsFitFilm-changed : (change : FilmState → FilmState) (row : Row) → ((film : FilmState) → IsFilm film → IsFilm (change film)) → IsFitFilm row → IsFitFilm (with_film_changed change row)
IsFitFilm-changed change row each fit = by row.film fit
  where
    by : (o : Option FilmState) → IfSome o (λ film. (row.kind ≡ VScreen) × IsFilm film) → IfSome (option_map change o) (λ film. (row.kind ≡ VScreen) × IsFilm film)
    by None fit = tt
    by (Some film) fit = (fit.0, each film fit.1)

pub IsSound-mode : (desk : Desk) (client : ℕ) (name : List ℕ) (w h : ℤ) (short : Bool) → IsSound desk → IsSound (step_mode desk client name w h short).1
unfolding step_mode blank_film
IsSound-mode desk client name w h short sound = IsSound-outcome desk (mode_refusal desk client name w h short) (mode_effect desk client name w h) sound done
  where
    row : Option Row
    row = row_named desk.rows client name

    last : List (Option Refusal)
    last = when (option_map_or is_admitted row false) Admitted ∷ when short Memory ∷ []

    done : mode_refusal desk client name w h short ≡ None → IsSound (mode_effect desk client name w h).1
    done none =
        let one = passed (unless_there row) (unless_kind is_screen row ∷ unless_within (pos 1) (pos 256) w ∷ unless_within (pos 1) (pos 256) h ∷ last) none in
        let two = passed (unless_kind is_screen row) (unless_within (pos 1) (pos 256) w ∷ unless_within (pos 1) (pos 256) h ∷ last) one.1 in
        let three = passed (unless_within (pos 1) (pos 256) w) (unless_within (pos 1) (pos 256) h ∷ last) two.1 in
        let four = passed (unless_within (pos 1) (pos 256) h) last three.1 in
        let five = passed (when (option_map_or is_admitted row false) Admitted) (when short Memory ∷ []) four.1 in
        let found = unless_there-none row one.0 in
        let kind : found.0.kind ≡ VScreen = is_screen-kind found.0.kind (sym (ap (is_kind_of is_screen) found.1) ∙ unless_kind-none is_screen row two.0) in
        let free : is_admitted found.0 ≡ false = sym (ap (λ (o : Option Row). option_map_or is_admitted o false) found.1) ∙ when-none (option_map_or is_admitted row false) Admitted five.0 in
        let wide = unless_within-none 1 256 w three.0 in
        let high = unless_within-none 1 256 h four.0 in
        let film = blank_film (unsigned_abs w) (unsigned_abs h) in
        IsSound-with_named desk client name found.0 (refilmed (λ _. Some film)) sound found.1
        (Suits-refilmed desk.rows client name found.0 (λ _. Some film) sound.rows.planted (λ _. (kind, IsFilm-blank_film (unsigned_abs w) (unsigned_abs h) wide.0 wide.1 high.0 high.1))) (λ h. h)
        (sym (share_in-none found.0 free))

-- a new period of a film: its share is set aside then
has_share-begun : (film : FilmState) (period : ℕ) → 0 < period → has_share (share_of film.width film.height period) (Some (begun film period)) ≡ true
unfolding begun
has_share-begun film period some = and_from _ _ (lt-ltb 0 period some) (nat_eq_equiv.refl (share_of film.width film.height period))

pub IsSound-admit : (desk : Desk) (client : ℕ) (name : List ℕ) (period : ℤ) → IsSound desk → IsSound (step_admit desk client name period).1
unfolding step_admit
IsSound-admit desk client name period sound = IsSound-outcome desk (admit_refusal desk client name period) (admit_effect desk client name period) sound done
  where
    row : Option Row
    row = row_named desk.rows client name

    film : Option FilmState
    film = film_named desk.rows client name

    fits : Option Refusal
    fits = option_and_then (λ film. unless_share_fits desk client name (share_wanted film period)) film

    ticks : ℕ
    ticks = unsigned_abs period

    change : Row → Row
    change = refilmed (option_map (λ film. begun film ticks))

    listed : (given : ℕ) (named : Row) (has : FilmState) → row ≡ Some named → named.film ≡ Some has → 1 ≤ ticks → given ≡ share_wanted has period → shares_of (other_admissions client name desk.roster) + share_wanted has period ≤ roster_limit desk → IsRosterOf (roster_limit desk) (with_named client name change desk.rows) (other_admissions client name desk.roster ++ record { client = client; name = name; share = given } ∷ [])
    listed given named has found is some same within =
        IsRosterOf-admit (roster_limit desk) desk.rows desk.roster client name named change given (LeavesNames-refilmed (option_map (λ film. begun film ticks))) found
        (ap (λ (share : ℕ). has_share share (option_map (λ film. begun film ticks) named.film)) same ∙ ap (λ (o : Option FilmState). has_share (share_wanted has period) (option_map (λ film. begun film ticks) o)) is ∙ has_share-begun has ticks some)
        (rw same within) sound.roster

    done : admit_refusal desk client name period ≡ None → IsSound (admit_effect desk client name period).1
    done none =
        let one = passed (unless_there row) (unless_kind is_screen row ∷ unless_within (pos 1) (pos 64) period ∷ unless_film film ∷ fits ∷ []) none in
        let two = passed (unless_kind is_screen row) (unless_within (pos 1) (pos 64) period ∷ unless_film film ∷ fits ∷ []) one.1 in
        let three = passed (unless_within (pos 1) (pos 64) period) (unless_film film ∷ fits ∷ []) two.1 in
        let four = passed (unless_film film) (fits ∷ []) three.1 in
        let five = passed fits [] four.1 in
        let found = unless_there-none row one.0 in
        let range = unless_within-none 1 64 period three.0 in
        let has = is_none-false film (when-none (is_none film) NoMode four.0) in
        let is : found.0.film ≡ Some has.0 = sym (ap (λ (o : Option Row). option_and_then (λ (row : Row). row.film) o) found.1) ∙ has.1 in
        let room : unless_share_fits desk client name (share_wanted has.0 period) ≡ None = sym (ap (λ (o : Option FilmState). option_and_then (λ film. unless_share_fits desk client name (share_wanted film period)) o) has.1) ∙ five.0 in
        let within = ltb-false (roster_limit desk) (shares_of (other_admissions client name desk.roster) + share_wanted has.0 period) (when-none (nat_lt (roster_limit desk) (shares_of (other_admissions client name desk.roster) + share_wanted has.0 period)) _ room) in
        let given : option_map_or (λ film. share_wanted film period) film 0 ≡ share_wanted has.0 period = ap (λ (o : Option FilmState). option_map_or (λ film. share_wanted film period) o 0) has.1 in
        IsSound-with_roster desk client name found.0 change (other_admissions client name desk.roster ++ admission_of desk client name period ∷ []) sound found.1
        (Suits-refilmed desk.rows client name found.0 (option_map (λ film. begun film ticks)) sound.rows.planted
        (IsFitFilm-changed (λ film. begun film ticks) found.0 (λ film whole. IsFilm-begun film ticks whole (omega (arith, range.0)) range.1))) (λ h. h)
        (listed (option_map_or (λ film. share_wanted film period) film 0) found.0 has.0 found.1 is range.0 given within)

is_admitted-settled : (row : Row) → is_admitted (with_film_changed settled row) ≡ false
unfolding settled
is_admitted-settled row = by row.film
  where
    by : (o : Option FilmState) → option_map_or (λ (film : FilmState). nat_lt 0 film.period) (option_map settled o) false ≡ false
    by None = refl
    by (Some film) = refl

pub IsSound-leave : (desk : Desk) (client : ℕ) (name : List ℕ) → IsSound desk → IsSound (step_leave desk client name).1
unfolding step_leave
IsSound-leave desk client name sound = IsSound-outcome desk (leave_refusal desk client name) (leave_effect desk client name) sound done
  where
    done : leave_refusal desk client name ≡ None → IsSound (leave_effect desk client name).1
    done none =
        let one = passed _ _ none in
        let found = unless_there-none (row_named desk.rows client name) one.0 in
        IsSound-with_roster desk client name found.0 (with_film_changed settled) (other_admissions client name desk.roster) sound found.1
        (Suits-refilmed desk.rows client name found.0 (option_map settled) sound.rows.planted (IsFitFilm-changed settled found.0 IsFilm-settled)) (λ h. h)
        (IsRosterOf-leave (roster_limit desk) desk.rows desk.roster client name (with_film_changed settled) (LeavesNames-refilmed (option_map settled)) is_admitted-settled sound.roster)

-- a frame leaves what is set aside
set_aside-framed : (frame : List ℕ) (film : FilmState) → set_aside (framed frame film) ≡ set_aside film
unfolding committed settled
set_aside-framed frame film = by (nat_lt 0 film.period) refl (length frame == pixels_in film)
  where
    by : (b : Bool) → nat_lt 0 film.period ≡ b → (d : Bool) → set_aside (cond b (cond d (record film { newest = frame }) film) (settled (cond d (record film { newest = frame }) film))) ≡ set_aside film
    by true q true = refl
    by true q false = refl
    by false q d = rw q refl

IsFilm-framed : (frame : List ℕ) (film : FilmState) → IsFilm film → IsFilm (framed frame film)
IsFilm-framed frame film whole = by (nat_lt 0 film.period)
  where
    by : (b : Bool) → IsFilm (cond b (committed film frame) (settled (committed film frame)))
    by true = IsFilm-committed film frame whole
    by false = IsFilm-settled (committed film frame) (IsFilm-committed film frame whole)

-- a change of films that leaves what is set aside leaves it of a row
pub share_in-changed : (change : FilmState → FilmState) (row : Row) → ((film : FilmState) → set_aside (change film) ≡ set_aside film) → share_in (with_film_changed change row) ≡ share_in row
share_in-changed change row same = by row.film
  where
    by : (o : Option FilmState) → option_and_then set_aside (option_map change o) ≡ option_and_then set_aside o
    by None = refl
    by (Some film) = same film

pub IsSound-frame : (desk : Desk) (client : ℕ) (name frame : List ℕ) → IsSound desk → IsSound (step_frame desk client name frame).1
unfolding step_frame
IsSound-frame desk client name frame sound = IsSound-outcome desk (frame_refusal desk client name frame) (frame_effect desk client name frame) sound done
  where
    done : frame_refusal desk client name frame ≡ None → IsSound (frame_effect desk client name frame).1
    done none =
        let one = passed _ _ none in
        let found = unless_there-none (row_named desk.rows client name) one.0 in
        IsSound-with_named desk client name found.0 (with_film_changed (framed frame)) sound found.1
        (Suits-refilmed desk.rows client name found.0 (option_map (framed frame)) sound.rows.planted (IsFitFilm-changed (framed frame) found.0 (IsFilm-framed frame))) (λ h. h)
        (share_in-changed (framed frame) found.0 (set_aside-framed frame))

-- A VScreen's film along a run, as long as the VScreen stays admitted: a beat at each tick, and frames between.
use Rattle.std.proofs.Common.{◌≡◌, ℕ, ◌+◌, Bool, true, false, cond, nat_lt, List, [], ◌∷◌, ◌++◌, Option, Some, None, IfSome, refl, sym, ap, ap₂, ◌∙◌, inl, inr, subst, arith}
use Rattle.std.proofs.lemmas.Bool.{true≢false, ltb-true}
use Rattle.std.proofs.lemmas.List.Elements.{All-head, All-tail}
use Rattle.std.proofs.lemmas.List.Sums.{sum_by-cons}
use Rattle.std.specs.Option.{option_map, option_map_or, option_and_then}
use Rattle.cmd_words.specs.declared.inputs.Drew.{Drew}
use Rattle.cmd_words.specs.declared.replies.Reply.{Reply}
use Rattle.vscreen_core.specs.declared.band.Band.{Band}
use Rattle.vscreen_core.specs.FilmState.{FilmState, IsFilm}
use Rattle.vscreen_core.specs.Changes.{committed, beaten, band_now, band_drawn}
use Rattle.vscreen_core.specs.Period.{FilmStep, after, beats_in, bands_in}
use Rattle.vscreen_core.specs.Period.FilmStep.{Commit, Beat}
use Rattle.vscreen_core.proofs.Periods.{band_was_drawn, committed_keeps, beaten_keeps}
use Rattle.widget_model.specs.Rows.{Row}
use Rattle.widget_model.specs.Named.{has_name, row_named}
use Rattle.widget_model.proofs.Hanging.{find-element}
use Rattle.desk_model.specs.Desk.{Desk}
use Rattle.desk_model.specs.Refusals.{is_memory}
use Rattle.desk_model.specs.Screens.{film_named}
use Rattle.desk_model.specs.Clients.{step_connect, step_hello, step_bye}
use Rattle.desk_model.specs.Commands.{step}
use Rattle.desk_model.specs.Feeding.{step_feed}
use Rattle.desk_model.proofs.BeatRows.{film_beaten}
use Rattle.desk_model.proofs.BeatScene.{film_named-beat}
use Rattle.machine_model.specs.State.{State, IsState}
use Rattle.machine_model.specs.Events.{Event, Answer}
use Rattle.machine_model.specs.Events.Event.{Connect, Hello, Bye, Ask, Feed, Misread, Tick, CountDirty, LookAt, Dump}
use Rattle.machine_model.specs.Events.Answer.{Replied, Drawn, Counted, Seen, Dumped}
use Rattle.machine_model.specs.Step.{Step, Changed, Answered, Ticked}
use Rattle.machine_model.specs.Run.{Moment, Run, state_after}
use Rattle.machine_model.specs.Periods.{film_in, is_admitted_in, admits, StaysAdmitted, is_tick, ticks_in, band_of_moment, bands_of}
use Rattle.machine_model.proofs.BeatColours.{whole_film}
use Rattle.machine_model.proofs.FilmSteps.{is_on, taken, FilmGoes, films_go-command, films_go-connect, films_go-hello, films_go-bye, film_named-feed}
use Rattle.machine_model.proofs.Steps.{IsState-step}

-- the film in a valid state is a whole one
pub IsFilm-state : (state : State) (key : ℕ × List ℕ) (film : FilmState) → IsState state → film_in state key ≡ Some film → IsFilm film
IsFilm-state state key film is there = by (row_named state.desk.rows key.0 key.1) refl there
  where
    by : (o : Option Row) → row_named state.desk.rows key.0 key.1 ≡ o → option_and_then (λ (row : Row). row.film) o ≡ Some film → IsFilm film
    by None found h = absurd (cc)
    by (Some row) found h =
        let at = find-element (has_name key.0 key.1) state.desk.rows row found in
        let F : Option FilmState → Type 0 = λ o. IfSome o (λ (f : FilmState). IsFilm f) in
        subst F h (whole_film state.desk.rows at.0 row is.desk.rows.films at.1)

-- A step that isn't a tick: the film goes on.
film_goes-changed : (old : State) (next : Desk) (new : State) (key : ℕ × List ℕ) → Changed old next new → FilmGoes (film_in old key) (film_named next.rows key.0 key.1) → FilmGoes (film_in old key) (film_in new key)
film_goes-changed old next new key ch goes = subst (λ (desk : Desk). FilmGoes (film_in old key) (film_named desk.rows key.0 key.1)) (sym ch.desk) goes

film_goes-answered : (old : State) (stepped : Bool → Reply × Desk) (reply : Reply) (new : State) (key : ℕ × List ℕ) → Answered old stepped reply new → FilmGoes (film_in old key) (film_named (stepped (is_memory reply)).1.rows key.0 key.1) → FilmGoes (film_in old key) (film_in new key)
film_goes-answered old stepped reply new key s goes = film_goes-changed old (stepped (is_memory reply)).1 new key s.change goes

film_goes-same : (old new : State) (key : ℕ × List ℕ) → new ≡ old → FilmGoes (film_in old key) (film_in new key)
film_goes-same old new key same = inl (ap (λ (s : State). film_in s key) same)

film_goes-step : (old : State) (event : Event) (answer : Answer) (new : State) (key : ℕ × List ℕ) → Step old event answer new → is_tick event ≡ false → admits key event answer ≡ false → FilmGoes (film_in old key) (film_in new key)
film_goes-step old (Connect client) (Replied reply) new key s other not_anew = film_goes-answered old (λ short. step_connect old.desk client short) reply new key s.1 (films_go-connect old.desk client (is_memory reply) key)
film_goes-step old Hello (Replied reply) new key s other not_anew = film_goes-answered old (λ short. step_hello old.desk short) reply new key s (films_go-hello old.desk (is_memory reply) key)
film_goes-step old (Bye client) (Replied reply) new key s other not_anew = film_goes-answered old (λ short. step_bye old.desk client) reply new key s (films_go-bye old.desk client key)
film_goes-step old (Ask client command payload) (Replied reply) new key s other not_anew =
    film_goes-answered old (λ short. step old.desk client command payload short) reply new key s
    (films_go-command old.desk client command payload (is_memory reply) key (sym (ap (λ (r : Reply). admits key (Ask client command payload) (Replied r)) s.reply_is) ∙ not_anew))
film_goes-step old (Feed input) (Replied reply) new key s other not_anew = film_goes-changed old (step_feed old.desk input) new key s.1 (inl (film_named-feed old.desk input key))
film_goes-step old (Misread client place) (Replied reply) new key s other not_anew = film_goes-same old new key s.0
film_goes-step old Tick answer new key s other not_anew = absurd (true≢false other)
film_goes-step old CountDirty (Counted n) new key s other not_anew = film_goes-same old new key s.0
film_goes-step old (LookAt x y) (Seen byte) new key s other not_anew = film_goes-same old new key s.0
film_goes-step old Dump (Dumped bytes) new key s other not_anew = film_goes-same old new key s.0
film_goes-step old _ _ new key s other not_anew = elim s [ ]

-- the bands of one moment, of a film that stands so after it
abbrev moment_bands : Bool → FilmState → List Band
moment_bands ticks film = cond ticks (band_drawn film ∷ []) []

-- What one step makes of an admitted film.
pub record FilmMoves (film : FilmState) (ticks : Bool) (new : Option FilmState) : Type 0 where
  pub steps : List FilmStep
  pub there : new ≡ Some (after film steps)
  pub beats : beats_in steps ≡ cond ticks 1 0
  pub bands : bands_in film steps ≡ moment_bands ticks (after film steps)

moves-goes : (film : FilmState) (old new : Option FilmState) → old ≡ Some film → is_on new ≡ true → FilmGoes old new → FilmMoves film false new
moves-goes film old new there on (inl same) = record { steps = []; there = same ∙ there; beats = refl; bands = refl }
moves-goes film old new there on (inr (inl takes)) =
    record { steps = Commit takes.0 ∷ []; there = takes.1 ∙ ap (taken takes.0) there; beats = refl; bands = refl }
moves-goes film old new there on (inr (inr ends)) = absurd (true≢false (sym on ∙ ends))

-- a tick is a beat
pub film_in-ticked : (old : State) (drew : Drew) (new : State) (key : ℕ × List ℕ) (film : FilmState) → Ticked old drew new → film_in old key ≡ Some film → nat_lt 0 film.period ≡ true → film_in new key ≡ Some (beaten film)
film_in-ticked old drew new key film t there on =
    ap (λ (desk : Desk). film_named desk.rows key.0 key.1) t.desk
    ∙ film_named-beat old.desk key.0 key.1
    ∙ ap (option_map film_beaten) there
    ∙ ap (λ (b : Bool). Some (cond b (beaten film) film)) on

moves-ticked : (old : State) (drew : Drew) (new : State) (key : ℕ × List ℕ) (film : FilmState) → IsState old → Ticked old drew new → film_in old key ≡ Some film → nat_lt 0 film.period ≡ true → FilmMoves film true (film_in new key)
moves-ticked old drew new key film is t there on =
    record {
      steps = Beat ∷ [];
      there = film_in-ticked old drew new key film t there on;
      beats = refl;
      bands = ap (λ (band : Band). band ∷ []) (sym (band_was_drawn film (IsFilm-state old key film is there) (ltb-true 0 film.period on)));
    }

-- any step
moves-step : (old : State) (event : Event) (answer : Answer) (new : State) (key : ℕ × List ℕ) (film : FilmState) → IsState old → Step old event answer new → film_in old key ≡ Some film → nat_lt 0 film.period ≡ true → is_admitted_in new key ≡ true → admits key event answer ≡ false → FilmMoves film (is_tick event) (film_in new key)
moves-step old Tick (Drawn drew) new key film is s there was on not_anew = moves-ticked old drew new key film is s there was
moves-step old (Connect client) answer new key film is s there was on not_anew = moves-goes film (film_in old key) (film_in new key) there on (film_goes-step old (Connect client) answer new key s refl not_anew)
moves-step old Hello answer new key film is s there was on not_anew = moves-goes film (film_in old key) (film_in new key) there on (film_goes-step old Hello answer new key s refl not_anew)
moves-step old (Bye client) answer new key film is s there was on not_anew = moves-goes film (film_in old key) (film_in new key) there on (film_goes-step old (Bye client) answer new key s refl not_anew)
moves-step old (Ask client command payload) answer new key film is s there was on not_anew = moves-goes film (film_in old key) (film_in new key) there on (film_goes-step old (Ask client command payload) answer new key s refl not_anew)
moves-step old (Feed input) answer new key film is s there was on not_anew = moves-goes film (film_in old key) (film_in new key) there on (film_goes-step old (Feed input) answer new key s refl not_anew)
moves-step old (Misread client place) answer new key film is s there was on not_anew = moves-goes film (film_in old key) (film_in new key) there on (film_goes-step old (Misread client place) answer new key s refl not_anew)
moves-step old CountDirty answer new key film is s there was on not_anew = moves-goes film (film_in old key) (film_in new key) there on (film_goes-step old CountDirty answer new key s refl not_anew)
moves-step old (LookAt x y) answer new key film is s there was on not_anew = moves-goes film (film_in old key) (film_in new key) there on (film_goes-step old (LookAt x y) answer new key s refl not_anew)
moves-step old Dump answer new key film is s there was on not_anew = moves-goes film (film_in old key) (film_in new key) there on (film_goes-step old Dump answer new key s refl not_anew)
moves-step old Tick _ new key film is s there was on not_anew = elim s [ ]

-- steps one after another
after-append : (film : FilmState) (a b : List FilmStep) → after film (a ++ b) ≡ after (after film a) b
after-append film [] b = refl
after-append film (Commit frame ∷ a) b = after-append (committed film frame) a b
after-append film (Beat ∷ a) b = after-append (beaten film) a b

beats_in-append : (a b : List FilmStep) → beats_in (a ++ b) ≡ beats_in a + beats_in b
beats_in-append [] b = omega arith
beats_in-append (Commit frame ∷ a) b = beats_in-append a b
beats_in-append (Beat ∷ a) b = omega (arith, beats_in-append a b)

bands_in-append : (film : FilmState) (a b : List FilmStep) → bands_in film (a ++ b) ≡ bands_in film a ++ bands_in (after film a) b
bands_in-append film [] b = refl
bands_in-append film (Commit frame ∷ a) b = bands_in-append (committed film frame) a b
bands_in-append film (Beat ∷ a) b = ap (λ (bands : List Band). band_now film ∷ bands) (bands_in-append (beaten film) a b)

-- no step changes the period
pub period-after : (film : FilmState) (steps : List FilmStep) → (after film steps).period ≡ film.period
period-after film [] = refl
period-after film (Commit frame ∷ steps) = period-after (committed film frame) steps ∙ (committed_keeps film frame).period
period-after film (Beat ∷ steps) = period-after (beaten film) steps ∙ (beaten_keeps film).period

-- What moments make of an admitted film: these steps.
pub record FilmRuns (key : ℕ × List ℕ) (film : FilmState) (moments : List Moment) (end : State) : Type 0 where
  pub steps : List FilmStep
  pub there : film_in end key ≡ Some (after film steps)
  pub beats : beats_in steps ≡ ticks_in moments
  pub bands : bands_in film steps ≡ bands_of key moments

-- the bands of a moment, from the film after it
bands-moment : (key : ℕ × List ℕ) (moment : Moment) (film : FilmState) → film_in moment.after key ≡ Some film → moment_bands (is_tick moment.event) film ≡ band_of_moment key moment
bands-moment key moment film there =
    sym (ap (λ (o : Option FilmState). cond (is_tick moment.event) (option_map_or (λ (f : FilmState). band_drawn f ∷ []) o []) []) there)

pub film_runs : (key : ℕ × List ℕ) (moments : List Moment) (from : State) (film : FilmState) → IsState from → Run from moments → film_in from key ≡ Some film → nat_lt 0 film.period ≡ true → StaysAdmitted key moments → FilmRuns key film moments (state_after from moments)
film_runs key [] from film is run there on stays = record { steps = []; there = there; beats = refl; bands = refl }
film_runs key (m ∷ moments) from film is run there on stays =
    let here = All-head (λ (moment : Moment). (is_admitted_in moment.after key ≡ true) × (admits key moment.event moment.answer ≡ false)) m moments stays in
    let moves = moves-step from m.event m.answer m.after key film is run.0 there on here.0 here.1 in
    let mid = after film moves.steps in
    let still : nat_lt 0 mid.period ≡ true = ap (λ (period : ℕ). nat_lt 0 period) (period-after film moves.steps) ∙ on in
    let rest = film_runs key moments m.after mid (IsState-step from m.event m.answer m.after is run.0) run.1 moves.there still (All-tail (λ (moment : Moment). (is_admitted_in moment.after key ≡ true) × (admits key moment.event moment.answer ≡ false)) m moments stays) in
    let ticks : ticks_in (m ∷ moments) ≡ cond (is_tick m.event) 1 0 + ticks_in moments = sum_by-cons (λ (moment : Moment). cond (is_tick moment.event) 1 0) m moments in
    record {
      steps = moves.steps ++ rest.steps;
      there = rest.there ∙ ap Some (sym (after-append film moves.steps rest.steps));
      beats = beats_in-append moves.steps rest.steps ∙ ap₂ (λ (a b : ℕ). a + b) moves.beats rest.beats ∙ sym ticks;
      bands =
          bands_in-append film moves.steps rest.steps
          ∙ ap₂ (λ (a b : List Band). a ++ b) (moves.bands ∙ bands-moment key m mid moves.there) rest.bands;
    }

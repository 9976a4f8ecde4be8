-- Runs join and part, and keep the state valid and the server's numbers.
use Rattle.std.proofs.Common.{◌≡◌, List, [], ◌∷◌, ◌++◌, refl, ◌∙◌}
use Rattle.std.proofs.lemmas.List.{map-append}
use Rattle.machine_model.specs.State.{State, IsState}
use Rattle.machine_model.specs.Events.{Event, Answer}
use Rattle.machine_model.specs.Step.{Step}
use Rattle.machine_model.specs.Run.{Moment, Run, state_after, events_of}
use Rattle.machine_model.proofs.Steps.{IsState-step, shape-step}

pub state_after-append : (from : State) (a b : List Moment) → state_after from (a ++ b) ≡ state_after (state_after from a) b
state_after-append from [] b = refl
state_after-append from (m ∷ a) b = state_after-append m.after a b

pub Run-append : (from : State) (a b : List Moment) → Run from a → Run (state_after from a) b → Run from (a ++ b)
Run-append from [] b p q = q
Run-append from (m ∷ a) b p q = (p.0, Run-append m.after a b p.1 q)

pub Run-parts : (from : State) (a b : List Moment) → Run from (a ++ b) → Run from a × Run (state_after from a) b
Run-parts from [] b p = (tt, p)
Run-parts from (m ∷ a) b p = let rest = Run-parts m.after a b p.1 in ((p.0, rest.0), rest.1)

pub Run-one : (from : State) (event : Event) (answer : Answer) (new : State) → Step from event answer new → Run from (record { event = event; answer = answer; after = new } ∷ [])
Run-one from event answer new s = (s, tt)

-- one more step at the end of a run
pub Run-push : (from : State) (moments : List Moment) (event : Event) (answer : Answer) (new : State) → Run from moments → Step (state_after from moments) event answer new → Run from (moments ++ record { event = event; answer = answer; after = new } ∷ [])
Run-push from moments event answer new run s =
    Run-append from moments (record { event = event; answer = answer; after = new } ∷ []) run (s, tt)

pub state_after-push : (from : State) (moments : List Moment) (event : Event) (answer : Answer) (new : State) → state_after from (moments ++ record { event = event; answer = answer; after = new } ∷ []) ≡ new
state_after-push from moments event answer new =
    state_after-append from moments (record { event = event; answer = answer; after = new } ∷ [])

pub events_of-append : (a b : List Moment) → events_of (a ++ b) ≡ events_of a ++ events_of b
events_of-append a b = map-append (λ (moment : Moment). moment.event) a b

pub IsState-run : (from : State) (moments : List Moment) → IsState from → Run from moments → IsState (state_after from moments)
IsState-run from [] is run = is
IsState-run from (m ∷ moments) is run = IsState-run m.after moments (IsState-step from m.event m.answer m.after is run.0) run.1

pub shape-run : (from : State) (moments : List Moment) → Run from moments → (state_after from moments).desk.shape ≡ from.desk.shape
shape-run from [] run = refl
shape-run from (m ∷ moments) run = shape-run m.after moments run.1 ∙ shape-step from m.event m.answer m.after run.0

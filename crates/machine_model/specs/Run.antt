-- A run of the machine: events one after another, each with its answer and the state after it. Which dirty
-- pixels each tick cleaned is read off the states; nothing else is free.
use Rattle.std.specs.Prelude.{List, [], ◌∷◌, map}
use Rattle.machine_model.specs.State.{State}
use Rattle.machine_model.specs.Events.{Event, Answer}
use Rattle.machine_model.specs.Step.{Step}

pub record Moment : Type 0 where
  pub event : Event
  pub answer : Answer
  pub after : State

abbrev pub events_of : List Moment → List Event
events_of moments = map (λ moment. moment.event) moments

-- the moments follow one another from this state on
abbrev pub Run : State → List Moment → Type 0
Run from [] = Unit {0}
Run from (moment ∷ moments) = Step from moment.event moment.answer moment.after × Run moment.after moments

-- the state after the last moment
abbrev pub state_after : State → List Moment → State
state_after from [] = from
state_after from (moment ∷ moments) = state_after moment.after moments

-- What `play` does with the lines of a script: each is run by the machine, and each answer is a line of the transcript.
use Rattle.std.specs.Prelude.{◌≡◌, List}
use Rattle.machine_model.specs.State.{State, IsState}
use Rattle.machine_model.specs.Run.{Moment, Run, events_of}
use Rattle.script_lines.specs.declared.order.Order.{Order}
use Rattle.script_walk.specs.Framing.{Item}
use Rattle.script_walk.specs.Rules.{Rules}
use Rattle.dope_run.specs.Script.{events_of_order}
use Rattle.dope_run.specs.Text.{text_of_moment}

-- From this state the moments are a run of the machine over the events that the order asks for.
pub record RunsOrder (from : State) (order : Order) (item : Item) (moments : List Moment) : Type 0 where
  pub events : events_of moments ≡ events_of_order order item.payload
  pub run : Run from moments

abbrev pub playing : Rules
playing = record {
  State = State;
  Moment = Moment;
  valid = IsState;
  after = λ from moment. moment.after;
  text = text_of_moment;
  runs = RunsOrder;
}

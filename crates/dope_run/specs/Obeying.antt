-- Inner words of the proofs: how a line's events are carried out: a run of the machine over them, whose text is put out as it goes.
use Rattle.std.specs.Prelude.{◌≡◌, ℕ, List, Option, Result, Ok, Err}
use Rattle.outside_io.specs.Outbox.{Output, output}
use Rattle.machine_model.specs.State.{State, IsState}
use Rattle.machine_model.specs.Events.{Event}
use Rattle.machine_model.specs.Run.{Moment, Run, events_of}
use Rattle.script_walk.specs.declared.end.End.{End}
use Rattle.script_walk.specs.declared.end.End.TheVariants.{Done, WriteFault}
use Rattle.script_walk.specs.Rules.{text_of}
use Rattle.script_walk.specs.Performing.{Says, Leaves}
use Rattle.script_walk.specs.Points.{Faulted}
use Rattle.dope_run.specs.Playing.{playing}

-- a server's state, its output, and the sink's count of faults
pub record At : Type 0 where
  pub state : State
  pub out : Output
  pub faults : ℕ

abbrev pub at : State → Option (List ℕ) → List ℕ → ℕ → At
at state held waiting faults = record { state = state; out = output held waiting; faults = faults }

-- a text was written, or its writing broke off
abbrev pub wrote : {T E : Type 0} → Result T E → End
wrote (Ok x) = Done
wrote (Err e) = WriteFault

-- The events happened to the machine from `old` on, the server is left in `new`, and the text was put out;
-- where the writing broke off, a front of it was written, and the server is left in a state of that run.
pub record Obeyed (end : End) (events : List Event) (old new : At) : Type 0 where
  pub moments : List Moment
  pub answers : events_of moments ≡ events
  pub run : Run old.state moments
  pub says : Says end old.out new.out (text_of playing moments)
  pub leaves : Leaves playing end new.state old.state moments
  pub valid : IsState new.state
  pub faults : Faulted end old.faults new.faults

-- The transcript of a script: what is written while the machine runs through its lines, from opening on.
use Rattle.std.specs.Prelude.{◌≡◌, ℕ, List, Option}
use Rattle.kind_core.specs.declared.shapes.Shape.{Shape}
use Rattle.machine_model.specs.State.{State, opening}
use Rattle.machine_model.specs.Run.{Run}
use Rattle.machine_model.specs.Laws.{KeepsLaws}
use Rattle.script_walk.specs.declared.end.End.{End}
use Rattle.script_walk.specs.declared.end.End.TheVariants as ends
use Rattle.script_walk.specs.Walked.{Walked}
use Rattle.dope_run.specs.declared.status.Status.{Status}
use Rattle.dope_run.specs.declared.status.Status.TheVariants.{Done, ReadFault, WriteFault, Usage, BadScript, NoMemory, TooMuch}
use Rattle.dope_run.specs.Playing.{playing}

-- the status of a run over a script, by how the walk over it ended
abbrev pub status_of : End → Status
status_of ends.Done = Done
status_of ends.ReadFault = ReadFault
status_of ends.WriteFault = WriteFault
status_of (ends.BadLine line) = BadScript line
status_of ends.TooMuch = TooMuch

-- A run of a server of this shape that ended so: a walk over the script from opening on, each line run by the machine,
-- that left the server in this state; and the laws that the run kept. What the walk took from the source, which lines
-- were played and what the sink gained is what `Walked` says.
pub record Ended (shape : Shape) (status : Status) (source_old source_new sink_old sink_new : Option (List ℕ)) (state : State) : Type 0 where
  pub end : End
  pub ended : status ≡ status_of end
  pub walked : Walked playing end (opening shape) state source_old source_new sink_old sink_new
  pub run : Run (opening shape) walked.moments
  pub laws : KeepsLaws (opening shape) walked.moments

-- The run was refused before anything was read, or it was played.
abbrev pub IsRefused : Status → Type 0
IsRefused Usage = Unit {0}
IsRefused NoMemory = Unit {0}
IsRefused _ = ⊥

abbrev pub IsPlayed : Status → Type 0
IsPlayed Usage = ⊥
IsPlayed NoMemory = ⊥
IsPlayed _ = Unit {0}

-- The laws of journals, each a statement over the definitions alone.
use Rattle.std.specs.Prelude.{◌≡◌, true, List, ◌++◌}
use Rattle.kind_core.specs.declared.shapes.Shape.{Shape}
use Rattle.scene_model.specs.Shapes.{IsShape}
use Rattle.machine_model.specs.State.{State, IsState, opening}
use Rattle.machine_model.specs.Events.{Event, Answer}
use Rattle.machine_model.specs.Step.{Step}
use Rattle.machine_model.specs.Run.{Moment, Run, state_after}
use Rattle.journal_model.specs.Journals.{Entry, Point, opening_point, is_kept, journal_of, IsLegalAnswer, IsLegalFrom, IsLegal, answered, replay, Allows}

-- Where a journal allows a valid state of the machine, each step of it has a legal answer, and the journal with that entry
-- allows the state after it.
abbrev pub StepsAreLegal : Type 0
StepsAreLegal =
    (point : Point) (old : State) (event : Event) (answer : Answer) (new : State) → IsState old → Allows point old → is_kept event ≡ true → Step old event answer new → IsLegalAnswer point event answer × Allows (answered point event answer) new

-- The journal of every run is legal, and allows the state in which the run ends.
abbrev pub JournalsOfRunsAreLegal : Type 0
JournalsOfRunsAreLegal =
    (shape : Shape) (moments : List Moment) → IsShape shape → Run (opening shape) moments → IsLegal shape (journal_of moments) × Allows (replay (opening_point shape) (journal_of moments)) (state_after (opening shape) moments)

-- Entries are legal one after another: those of a whole journal exactly where its first part is legal and the second is
-- legal from where the first leads.
abbrev pub JournalsJoin : Type 0
JournalsJoin =
    (point : Point) (first second : List Entry) → IsLegalFrom point first → IsLegalFrom (replay point first) second → IsLegalFrom point (first ++ second) × (replay point (first ++ second) ≡ replay (replay point first) second)

abbrev pub JournalsPart : Type 0
JournalsPart =
    (point : Point) (first second : List Entry) → IsLegalFrom point (first ++ second) → IsLegalFrom point first × IsLegalFrom (replay point first) second

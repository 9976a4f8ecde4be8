-- The laws of the machine, each a statement over its definitions alone.
use Rattle.std.specs.Prelude.{◌≡◌, ◌≢◌, ℕ, ◌-◌, ◌*◌, ◌≤◌, false, List, ◌++◌, length}
use Rattle.std.specs.List.{All}
use Rattle.cmd_words.specs.declared.inputs.Drew.{Drew}
use Rattle.kind_core.specs.declared.shapes.Shape.{Shape}
use Rattle.scene_model.specs.Shapes.{IsShape}
use Rattle.desk_model.specs.Desk.{Desk}
use Rattle.desk_model.specs.Seen.{colour, picture}
use Rattle.desk_model.specs.DeskFacts.{IsDesk}
use Rattle.machine_model.specs.Reach.{is_reached}
use Rattle.desk_model.specs.Beat.{beat, in_band, band_count}
use Rattle.desk_model.specs.Screens.{shares_of}
use Rattle.machine_model.specs.State.{State, IsState, opening, dirty_count}
use Rattle.machine_model.specs.Events.{Event, Answer}
use Rattle.machine_model.specs.Events.Event.{Tick}
use Rattle.machine_model.specs.Events.Answer.{Drawn}
use Rattle.machine_model.specs.Step.{Step, CanCome}
use Rattle.machine_model.specs.Chosen.{lost_marks, TickedWith}
use Rattle.machine_model.specs.Run.{Moment, Run, state_after, events_of}
use Rattle.machine_model.specs.Periods.{DrawsEachPeriod}
use Rattle.machine_model.specs.Laws.{KeepsBudget, IsUndisturbed, enough_ticks, IsDrawnAfresh, KeepsLaws}

-- Between any two desks of one shape, for which all holds that always holds of a desk, no pixel outside the reach has
-- another colour.
abbrev pub ColoursAgreeOutsideTheReach : Type 0
ColoursAgreeOutsideTheReach =
    (before after : Desk) → IsDesk before → IsDesk after → before.shape ≡ after.shape → (x y : ℕ) → is_reached before after x y ≡ false → colour before x y ≡ colour after x y

-- Where a desk, for which all holds that always holds of one, stays as it is, nothing is reached.
abbrev pub NothingIsReachedWithoutAChange : Type 0
NothingIsReachedWithoutAChange = (desk : Desk) → IsDesk desk → (x y : ℕ) → is_reached desk desk x y ≡ false

-- A beat of a desk, for which all holds that always holds of one, changes colours only in the bands that it draws.
abbrev pub BeatsChangeOnlyTheirBands : Type 0
BeatsChangeOnlyTheirBands =
    (desk : Desk) → IsDesk desk → (x y : ℕ) → in_band (beat desk) x y ≡ false → colour desk x y ≡ colour (beat desk) x y

-- After a beat no more pixels of the screen lie in a band than the shares of the admitted VScreens are, which leave the
-- spare of the budget.
abbrev pub BandsFitTheirShares : Type 0
BandsFitTheirShares =
    (desk : Desk) → IsDesk desk → (band_count (beat desk) ≤ shares_of desk.roster) × (shares_of desk.roster ≤ desk.shape.budget - desk.shape.spare)

-- The state at opening is valid.
abbrev pub OpeningIsValid : Type 0
OpeningIsValid = (shape : Shape) → IsShape shape → IsState (opening shape)

-- A step from a valid state leads to a valid one: what holds of a desk holds, and each pixel stays dirty or right.
abbrev pub StepsKeepStatesValid : Type 0
StepsKeepStatesValid =
    (old : State) (event : Event) (answer : Answer) (new : State) → IsState old → Step old event answer new → IsState new

-- Only a tick draws: any other event leaves the screen as it was.
abbrev pub OnlyTicksDraw : Type 0
OnlyTicksDraw =
    (old : State) (event : Event) (answer : Answer) (new : State) → Step old event answer new → event ≢ Tick → new.screen ≡ old.screen

-- What a tick cleaned is a set of dirty pixels, as many as there is room for, and it drew them and the bands alone.
abbrev pub TicksCleanAChosenSet : Type 0
TicksCleanAChosenSet =
    (old : State) (drew : Drew) (new : State) → IsState old → Step old Tick (Drawn drew) new → TickedWith (lost_marks old.dirt new.dirt) old drew new

-- Where nothing is dirty the screen is the desk drawn afresh.
abbrev pub CleanStatesShowThePicture : Type 0
CleanStatesShowThePicture =
    (state : State) → IsState state → dirty_count state ≡ 0 → state.screen ≡ picture state.desk

-- From each valid state each event that can come has an answer and a state after it.
abbrev pub EventsHaveAnswers : Type 0
EventsHaveAnswers =
    (old : State) (event : Event) → CanCome event → IsState old → (answer : Answer) × (new : State) × Step old event answer new

-- From each valid state each list of events that can come has a run.
abbrev pub EventsHaveARun : Type 0
EventsHaveARun =
    (from : State) (events : List Event) → All CanCome events → IsState from → (moments : List Moment) × (events_of moments ≡ events) × Run from moments

-- Two runs, the second from where the first ends, are one.
abbrev pub RunsJoin : Type 0
RunsJoin =
    (from : State) (first second : List Moment) → Run from first → Run (state_after from first) second → Run from (first ++ second) × (state_after from (first ++ second) ≡ state_after (state_after from first) second)

-- A run from a valid state ends in a valid one.
abbrev pub RunsKeepStatesValid : Type 0
RunsKeepStatesValid =
    (from : State) (moments : List Moment) → IsState from → Run from moments → IsState (state_after from moments)

-- In a run from a valid state no tick writes more pixels than the budget.
abbrev pub TicksKeepTheBudget : Type 0
TicksKeepTheBudget = (from : State) (moments : List Moment) → IsState from → Run from moments → KeepsBudget from moments

-- In a run from a valid state each period of an admitted VScreen draws each of its film's pixels once, from the frame that
-- was the newest when the period began.
abbrev pub PeriodsAreDrawn : Type 0
PeriodsAreDrawn = (from : State) (moments : List Moment) → IsState from → Run from moments → DrawsEachPeriod from moments

-- From a valid state n undisturbed ticks leave at most the dirty pixels less n times the spare.
abbrev pub TicksLeaveFewer : Type 0
TicksLeaveFewer =
    (from : State) (ticks : List Moment) → IsState from → Run from ticks → IsUndisturbed ticks → dirty_count (state_after from ticks) ≤ dirty_count from - length ticks * from.desk.shape.spare

-- From a valid state the screen is the desk drawn afresh after as many undisturbed ticks as the dirty pixels divided
-- by the spare, rounded up, or more.
abbrev pub EnoughTicksDrawAfresh : Type 0
EnoughTicksDrawAfresh =
    (from : State) (ticks : List Moment) → IsState from → Run from ticks → IsUndisturbed ticks → enough_ticks from ≤ length ticks → IsDrawnAfresh (state_after from ticks)

-- Every run from a valid state keeps the laws: no tick writes more than the budget, each period draws each pixel once, and
-- the screen comes right while nothing but ticks happens.
abbrev pub RunsKeepTheLaws : Type 0
RunsKeepTheLaws = (from : State) (moments : List Moment) → IsState from → Run from moments → KeepsLaws from moments

-- What holds of every run of the machine: no tick writes more than the budget, each period of an admitted VScreen draws
-- each of its pixels once and from one frame, and the screen comes right while nothing but ticks happens.
use Rattle.std.specs.Prelude.{◌≡◌, ℕ, ◌+◌, ◌-◌, ◌*◌, ◌≤◌, List, ◌++◌, length}
use Rattle.std.specs.List.{All}
use Rattle.std.specs.Int.{div_ceil}
use Rattle.desk_model.specs.Seen.{picture}
use Rattle.machine_model.specs.State.{State, dirty_count}
use Rattle.machine_model.specs.Events.{Answer}
use Rattle.machine_model.specs.Events.Event.{Tick}
use Rattle.machine_model.specs.Events.Answer.{Drawn}
use Rattle.machine_model.specs.Run.{Moment, state_after}
use Rattle.machine_model.specs.Periods.{DrawsEachPeriod}

-- the pixels that a tick wrote, one that it wrote twice counted twice
abbrev pub written : Answer → ℕ
written (Drawn drew) = drew.bands + drew.queue
written _ = 0

-- No tick of the run writes more pixels than the budget.
abbrev pub KeepsBudget : State → List Moment → Type 0
KeepsBudget from moments = All (λ (moment : Moment). written moment.answer ≤ from.desk.shape.budget) moments

-- only ticks happen
abbrev pub IsUndisturbed : List Moment → Type 0
IsUndisturbed moments = All (λ (moment : Moment). moment.event ≡ Tick) moments

-- the ticks after which no pixel can be dirty: the dirty pixels divided by the spare, rounded up
abbrev pub enough_ticks : State → ℕ
enough_ticks state = div_ceil (dirty_count state) state.desk.shape.spare

-- the screen is the desk drawn afresh
abbrev pub IsDrawnAfresh : State → Type 0
IsDrawnAfresh state = state.screen ≡ picture state.desk

-- After n undisturbed ticks the dirty pixels have fallen by n times the spare, or to none; where none is dirty the
-- screen is the desk drawn afresh; and so it is after enough ticks.
pub record ComesRight (from : State) (ticks : List Moment) : Type 0 where
  pub fewer : dirty_count (state_after from ticks) ≤ dirty_count from - length ticks * from.desk.shape.spare
  pub right : dirty_count (state_after from ticks) ≡ 0 → IsDrawnAfresh (state_after from ticks)
  pub afresh : enough_ticks from ≤ length ticks → IsDrawnAfresh (state_after from ticks)

-- wherever in a run only ticks happen for a while
abbrev pub ComesRightThroughout : State → List Moment → Type 0
ComesRightThroughout from moments =
    (before ticks later : List Moment) → moments ≡ (before ++ ticks) ++ later → IsUndisturbed ticks → ComesRight (state_after from before) ticks

-- The headline's laws of a run, together.
pub record KeepsLaws (from : State) (moments : List Moment) : Type 0 where
  pub budget : KeepsBudget from moments
  pub periods : DrawsEachPeriod from moments
  pub comes_right : ComesRightThroughout from moments

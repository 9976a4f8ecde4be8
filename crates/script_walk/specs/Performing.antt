-- How one order was performed: whole, or broken off at a fault of writing; and what each command's rules have to keep.
use Rattle.std.specs.Prelude.{◌≡◌, ℕ, ◌≤◌, List, [], length, take}
use Rattle.outside_io.specs.Outbox.{Output, Puts, PutsFront}
use Rattle.script_lines.specs.declared.order.Order.{Order}
use Rattle.script_lines.specs.declared.order.Order.TheVariants.{Nothing}
use Rattle.script_lines.specs.Lines.{asks}
use Rattle.script_walk.specs.declared.end.End.{End}
use Rattle.script_walk.specs.declared.end.End.TheVariants.{WriteFault}
use Rattle.script_walk.specs.Framing.{Item, IsItem}
use Rattle.script_walk.specs.Rules.{Rules, state_after, text_of}

-- The whole text was put out; or, where the writing broke off, a front of what waited before and of the text was written.
abbrev pub Says : End → Output → Output → List ℕ → Type 0
Says WriteFault old new text = PutsFront old new text
Says _ old new text = Puts old new text

-- what is left is the last state of the moments, or, where the writing broke off, one of their states
pub record IsReached (r : Rules) (state from : r.State) (moments : List r.Moment) : Type 0 where
  pub count : ℕ
  pub within : count ≤ length moments
  pub reached : state ≡ state_after r from (take count moments)

abbrev pub Leaves : (r : Rules) → End → r.State → r.State → List r.Moment → Type 0
Leaves r WriteFault state from moments = IsReached r state from moments
Leaves r _ state from moments = state ≡ state_after r from moments

-- The order came to moments from `from` on, their text was put out, and `now` is left.
pub record Performed (r : Rules) (end : End) (from : r.State) (order : Order) (item : Item) (now : r.State) (before after : Output) : Type 0 where
  pub moments : List r.Moment
  pub runs : r.runs from order item moments
  pub says : Says end before after (text_of r moments)
  pub leaves : Leaves r end now from moments

-- An empty line or a comment comes to nothing; any line of a script comes to something; and what holds of every state is kept.
pub record Lawful (r : Rules) : Type 0 where
  pub silent : (from : r.State) (item : Item) → r.valid from → r.runs from Nothing item []
  pub goes_on : (from : r.State) (order : Order) (item : Item) → r.valid from → IsItem item → asks item.line order → (moments : List r.Moment) × r.runs from order item moments
  pub keeps : (from : r.State) (order : Order) (item : Item) (moments : List r.Moment) → r.valid from → IsItem item → asks item.line order → r.runs from order item moments → r.valid (state_after r from moments)

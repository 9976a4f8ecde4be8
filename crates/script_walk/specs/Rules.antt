-- What a command does with the lines of a script, as one value, so that the walk's theorem speaks of every command.
use Rattle.std.specs.Prelude.{◌≡◌, ℕ, List, [], ◌∷◌, ◌++◌}
use Rattle.std.specs.List.{flat_map}
use Rattle.script_lines.specs.declared.order.Order.{Order}
use Rattle.script_lines.specs.Lines.{asks}
use Rattle.script_walk.specs.Framing.{Item, IsItem}

-- Work on a line is moments, one after another: each leaves a state and has a text.
pub record Rules : Type 1 where
  -- the states of what is worked on
  pub State : Type 0
  -- what happened at one moment
  pub Moment : Type 0
  -- what holds of every state that is reached
  pub valid : State → Type 0
  -- the state that a moment leaves
  pub after : State → Moment → State
  -- what is written for a moment
  pub text : Moment → List ℕ
  -- from this state the order, in a line with its raw bytes, may come to these moments
  pub runs : State → Order → Item → List Moment → Type 0

-- the state after all the moments
abbrev pub state_after : (r : Rules) → r.State → List r.Moment → r.State
state_after r from [] = from
state_after r from (moment ∷ moments) = state_after r (r.after from moment) moments

-- what is written for them
abbrev pub text_of : (r : Rules) → List r.Moment → List ℕ
text_of r moments = flat_map r.text moments

-- From this state a line with its raw bytes was read and came to these moments.
pub record Does (r : Rules) (from : r.State) (item : Item) (moments : List r.Moment) : Type 0 where
  pub whole : IsItem item
  pub order : Order
  pub asked : asks item.line order
  pub runs : r.runs from order item moments

-- The moments are those of the lines, one line after another.
unfoldable pub Plays : (r : Rules) → r.State → List Item → List r.Moment → Type 0
Plays r from [] moments = moments ≡ []
Plays r from (item ∷ items) moments =
    (first : List r.Moment) × (later : List r.Moment) × Does r from item first × Plays r (state_after r from first) items later × (moments ≡ first ++ later)

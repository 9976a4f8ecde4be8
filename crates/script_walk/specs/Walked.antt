-- What a walk over a script did, whatever its lines are performed on.
use Rattle.std.specs.Prelude.{◌≡◌, ℕ, ◌≤◌, List, length, take, Option}
use Rattle.std.specs.Io.KnownBytes.{Appends, Consumes}
use Rattle.script_walk.specs.declared.end.End.{End}
use Rattle.script_walk.specs.declared.end.End.TheVariants.{WriteFault}
use Rattle.script_walk.specs.Framing.{Item}
use Rattle.script_walk.specs.Covering.{Covers, LastRead}
use Rattle.script_walk.specs.Rules.{Rules, Plays, state_after, text_of}

-- The sink has gained a front of the text, and in it at least this beginning of the text.
pub record GainsFront (old new : Option (List ℕ)) (earlier text : List ℕ) : Type 0 where
  pub count : ℕ
  pub enough : length earlier ≤ count
  pub within : count ≤ length text
  pub appended : Appends old new (take count text)

-- The sink has gained the whole text, or after a write fault a front of it, in which is what was asked for before
-- the last read: no read begins before all output is written.
abbrev pub Gains : End → Option (List ℕ) → Option (List ℕ) → List ℕ → List ℕ → Type 0
Gains WriteFault old new earlier text = GainsFront old new earlier text
Gains _ old new earlier text = Appends old new text

-- The state is one of the moments' states, after at least so many of them.
pub record IsPast (r : Rules) (state from : r.State) (least : ℕ) (moments : List r.Moment) : Type 0 where
  pub count : ℕ
  pub enough : least ≤ count
  pub within : count ≤ length moments
  pub reached : state ≡ state_after r from (take count moments)

-- What is left is the last state of the moments, or after a write fault one of their states, in which all is carried
-- out that was asked for before the last read.
abbrev pub IsLeft : (r : Rules) → End → r.State → r.State → ℕ → List r.Moment → Type 0
IsLeft r WriteFault state from least moments = IsPast r state from least moments
IsLeft r _ state from least moments = state ≡ state_after r from moments

-- A walk that ended so, from one state to another: what it took from the source, which lines of it were worked through,
-- the moments that they came to, what was taken by the last read alone, the moments before it, what the sink gained, and
-- which state is left. What holds of every state holds of it.
pub record Walked (r : Rules) (end : End) (from now : r.State) (source_old source_new sink_old sink_new : Option (List ℕ)) : Type 0 where
  pub taken : List ℕ
  pub items : List Item
  pub moments : List r.Moment
  pub consumes : Consumes source_old source_new taken
  pub covers : Covers end taken source_new items
  pub plays : Plays r from items moments
  pub read : LastRead taken
  pub count : ℕ
  pub earlier : Plays r from read.lines (take count moments)
  pub gains : Gains end sink_old sink_new (text_of r (take count moments)) (text_of r moments)
  pub leaves : IsLeft r end now from count moments
  pub valid : r.valid now

-- The rule of the turnstile, between any two steps.
use Rattle.std.specs.Prelude.{◌≡◌, ℕ, ◌%◌, ◌^◌, List, [], ◌∷◌, length, Option}
use Rattle.std.specs.List.{All}
use Rattle.atomic_table.specs.Table.{State}
use Rattle.turnstile.specs.declared.view.View.{View}
use Rattle.turnstile.specs.declared.view.Stage.{Stage}
use Rattle.turnstile.specs.declared.view.Stage.TheVariants.{Spent, Out, Waits, Inside}
use Rattle.turnstile.specs.Entries.{Tallies}
use Rattle.turnstile.specs.Views.{parts}
use Rattle.turnstile.specs.Tickets.{Tickets}
use Rattle.turnstile.specs.Numbers.{Numbers}
use Rattle.turnstile.specs.Turns.{Turns, HasTurn}

-- the words: the next ticket, whose turn it is, and the length of the history
abbrev pub words_of : ℕ → ℕ → ℕ → List ℕ
words_of next turn len = next % 2 ^ 64 ∷ turn % 2 ^ 64 ∷ len % 2 ^ 64 ∷ []

-- every pass that isn't spent knows what was fixed at the opening
abbrev pub KnowsOpening : ℕ → ℕ → Stage → ℕ → ℕ → Type 0
KnowsOpening made opening Spent m o = Unit {0}
KnowsOpening made opening Out m o = (m ≡ made) × (o ≡ opening)
KnowsOpening made opening (Waits t) m o = (m ≡ made) × (o ≡ opening)
KnowsOpening made opening (Inside t) m o = (m ≡ made) × (o ≡ opening)

module _ {E : Type 0} where
  -- fourth and fifth part, and the second: what a pass knows is so
  pub record Fits (number : E → ℕ) (made opening turn : ℕ) (history : List E) (v : View E) : Type 0 where
    pub knows : KnowsOpening made opening v.stage v.made v.opening
    pub turn_is : HasTurn turn history v.stage v.own
    pub tallies : All (Tallies number opening history) (parts v)

module _ {A E : Type 0} where
  pub record Stands (entries : A → List E) (number : E → ℕ) (made opening : ℕ) (s : State (Option A) (View E)) : Type 0 where
    pub next : ℕ
    pub turn : ℕ
    pub history : List E
    pub words : s.words ≡ words_of next turn (length history)
    pub tickets : Tickets next turn s.views
    pub numbers : Numbers number made opening history s.views
    pub turns : Turns entries history s.homes s.views
    pub fits : All (Fits number made opening turn history) s.views

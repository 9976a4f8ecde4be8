-- Second and third part of the rule: a pass is inside only with the ticket whose turn it is, and the history is what it saw.
-- The slot is at home unless a pass is inside; a value at home has the history for its entries.
use Rattle.std.specs.Prelude.{◌≡◌, ◌⊎◌, ℕ, List, [], ◌∷◌, Option, Some}
use mathlib.Core.Option.{none, some}
use mathlib.Core.Option as maybe
use Rattle.turnstile.specs.declared.view.Part.{Part}
use Rattle.turnstile.specs.declared.view.View.{View}
use Rattle.turnstile.specs.declared.view.Stage.{Stage}
use Rattle.turnstile.specs.declared.view.Stage.TheVariants.{Spent, Out, Waits, Inside}
use Rattle.turnstile.specs.Tickets.{total}

abbrev pub is_inside : Stage → ℕ
is_inside Spent = 0
is_inside Out = 0
is_inside (Waits t) = 0
is_inside (Inside t) = 1

module _ {A E : Type 0} where
  pub record AtHome (entries : A → List E) (history : List E) (homes : List (maybe.Option (Option A))) (views : List (View E)) : Type 0 where
    pub value : A
    pub home : homes ≡ some (Some value) ∷ []
    pub has : entries value ≡ history
    pub empty : total (λ v. is_inside v.stage) views ≡ 0

  pub record Away (homes : List (maybe.Option (Option A))) (views : List (View E)) : Type 0 where
    pub home : homes ≡ none ∷ []
    pub one : total (λ v. is_inside v.stage) views ≡ 1

  abbrev pub Turns : (A → List E) → List E → List (maybe.Option (Option A)) → List (View E) → Type 0
  Turns entries history homes views = AtHome entries history homes views ⊎ Away homes views

module _ {E : Type 0} where
  -- who is inside has the turn, and saw the history
  abbrev pub HasTurn : ℕ → List E → Stage → Part E → Type 0
  HasTurn turn history Spent own = Unit {0}
  HasTurn turn history Out own = Unit {0}
  HasTurn turn history (Waits t) own = Unit {0}
  HasTurn turn history (Inside t) own = (t ≡ turn) × (own.seen ≡ history)

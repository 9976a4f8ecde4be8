-- What each kind of step tells the pass that makes it: its view and what it holds, before and after, and the number that it found.
use Rattle.std.specs.Prelude.{◌≡◌, ◌≢◌, ℕ, ◌≤◌, ◌%◌, ◌^◌, List, [], ◌∷◌, length, Option, Some}
use Rattle.std.specs.List.{All}
use Rattle.atomic_table.specs.Table.{Me, Step}
use Rattle.turnstile.specs.declared.view.View.{View}
use Rattle.turnstile.specs.declared.view.Stage.TheVariants.{Out, Waits}
use Rattle.turnstile.specs.Entries.{Tallies, HaveAll}
use Rattle.turnstile.specs.Views.{at_stage, arrived, gained}

-- what a pass learns of the entries to which it comes in
pub record Learns {E : Type 0} (number : E → ℕ) (v : View E) (entries : List E) : Type 0 where
  pub tallies : All (Tallies number v.opening entries) (v.own ∷ v.joined)
  pub whole : v.made ≤ length (v.own ∷ v.joined) → HaveAll v.opening entries (v.own ∷ v.joined)

-- a pass's view, and the slot that it holds, if any
abbrev pub Holder : Type 0 → Type 0 → Type 0
Holder A E = Me (Option A) (View E)

module _ {A E : Type 0} where
  -- a ticket was drawn
  abbrev pub drew : Step (Option A) → Holder A E → ℕ → Holder A E → Type 0
  drew st m n m' = (t : ℕ) × (n ≡ t % 2 ^ 64) × (m' ≡ (at_stage (Waits t) m.0, m.1))

  pub record Enters (entries : A → List E) (number : E → ℕ) (t : ℕ) (m m' : Holder A E) : Type 0 where
    pub value : A
    pub after : m' ≡ (arrived t (entries value) m.0, (0, Some value) ∷ m.1)
    pub learns : Learns number m.0 (entries value)

  -- it was looked whose turn it is: where it is the pass's own, it is inside with the value
  abbrev pub looked : (A → List E) → (E → ℕ) → Step (Option A) → Holder A E → ℕ → Holder A E → Type 0
  looked entries number st m n m' =
      (t : ℕ) → m.0.stage ≡ Waits t → (n ≡ t % 2 ^ 64 → Enters entries number t m m') × (n ≢ t % 2 ^ 64 → m' ≡ m)

  -- the new entries of the value that the pass holds were published
  abbrev pub published : (A → List E) → Step (Option A) → Holder A E → ℕ → Holder A E → Type 0
  published entries st m n m' = (value : A) → m.1 ≡ (0, Some value) ∷ [] → m' ≡ (gained (entries value) m.0, m.1)

  -- the turn was passed on
  abbrev pub passed : Step (Option A) → Holder A E → ℕ → Holder A E → Type 0
  passed st m n m' = m' ≡ (at_stage Out m.0, [])

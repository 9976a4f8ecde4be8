-- What a clause reads of a pass and of its turnstile.
use Rattle.std.specs.Prelude.{◌≡◌, ℕ, ◌%◌, ◌^◌, List, [], ◌∷◌, ◌++◌, length, None}
use Rattle.turnstile.specs.declared.pass.Pass.{Pass}
use Rattle.turnstile.specs.declared.turnstile.Turnstile.{Turnstile}
use Rattle.turnstile.specs.declared.view.Part.{Part}
use Rattle.turnstile.specs.declared.view.View.{View}
use Rattle.turnstile.specs.declared.view.Stage.TheVariants.{Out, Inside}
use Rattle.turnstile.specs.Views.{fresh}

module _ {A E : Type 0} where
  -- what the pass knows
  abbrev pub known : Pass A E → View E
  known pass = pass.seat.me.0

  -- its number
  abbrev pub number_of : Pass A E → ℕ
  number_of pass = pass.number

  -- the entries that it saw last
  abbrev pub seen : Pass A E → List E
  seen pass = pass.seat.me.0.own.seen

  -- the entries that it added
  abbrev pub mine : Pass A E → List E
  mine pass = pass.seat.me.0.own.mine

  -- how many entries the value had at the opening
  abbrev pub opening : Pass A E → ℕ
  opening pass = pass.seat.me.0.opening

  -- its own part, and those of the passes that were gathered into it
  abbrev pub parts_of : Pass A E → List (Part E)
  parts_of pass = pass.seat.me.0.own ∷ pass.seat.me.0.joined

  -- how many passes were made
  abbrev pub made_of : Turnstile A E → ℕ
  made_of gate = gate.made

  -- the parts of these passes, those of the last pass first
  abbrev pub parts_together : List (Pass A E) → List (Part E)
  parts_together [] = []
  parts_together (p ∷ ps) = parts_together ps ++ parts_of p

  -- the pass is one of this turnstile's
  pub record IsPassOf (entries : A → List E) (gate : Turnstile A E) (pass : Pass A E) : Type 0 where
    pub table : pass.seat.table_id ≡ gate.table.shared.table_id
    pub made : pass.seat.me.0.made ≡ gate.made
    pub opening : pass.seat.me.0.opening ≡ length (entries gate.table.shared.key.value.value)
    pub number : pass.seat.me.0.own.number ≡ pass.number

  -- what no call of the turnstile changes of a pass
  pub record IsSamePass (before now : Pass A E) : Type 0 where
    pub number : now.number ≡ before.number
    pub opening : now.seat.me.0.opening ≡ before.seat.me.0.opening
    pub joined : now.seat.me.0.joined ≡ before.seat.me.0.joined

  -- the pass isn't inside
  pub record IsOut (pass : Pass A E) : Type 0 where
    pub stage : pass.seat.me.0.stage ≡ Out
    pub empty : pass.seat.me.1 ≡ []

  -- the pass is inside
  pub record IsInside (pass : Pass A E) : Type 0 where
    pub ticket : ℕ
    pub stage : pass.seat.me.0.stage ≡ Inside ticket
    pub empty : pass.seat.me.1 ≡ (0, None) ∷ []
    pub len : pass.len ≡ length pass.seat.me.0.own.seen % 2 ^ 64

  -- a pass as it is made: it saw these entries, and added none
  pub record IsNew (entries : A → List E) (gate : Turnstile A E) (first : List E) (pass : Pass A E) : Type 0 where
    pub own : IsPassOf entries gate pass
    pub out : IsOut pass
    pub alone : pass.seat.me.0.own ∷ pass.seat.me.0.joined ≡ fresh first pass.number ∷ []
    pub opening : pass.seat.me.0.opening ≡ length first

-- Inner words of proofs: the pass from which the others are still to be split off, when a turnstile is made.
use Rattle.std.specs.Prelude.{◌≡◌, ◌-◌, List, []}
use Rattle.turnstile.specs.declared.pass.Pass.{Pass}
use Rattle.turnstile.specs.declared.turnstile.Turnstile.{Turnstile}
use Rattle.turnstile.specs.Views.{beginning}
use Rattle.turnstile.specs.Passes.{IsPassOf}

-- it has its own number, and those behind it up to the last
pub record IsMaker {A E : Type 0} (entries : A → List E) (gate : Turnstile A E) (first : List E) (pass : Pass A E) : Type 0 where
  pub own : IsPassOf entries gate pass
  pub holds : pass.seat.me ≡ (beginning gate.made first pass.number (gate.made - 1 - pass.number), [])

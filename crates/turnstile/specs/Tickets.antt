-- First part of the rule: the tickets that are out are distinct, and they are those from the turn to just before the next one.
-- Tickets count from 0 without end; the words have them modulo 2^64.
use Rattle.std.specs.Prelude.{◌≡◌, ℕ, ◌+◌, Bool, ◌&&◌, cond, nat_eq, nat_le, nat_lt, List, [], ◌∷◌}
use Rattle.turnstile.specs.declared.view.View.{View}
use Rattle.turnstile.specs.declared.view.Stage.{Stage}
use Rattle.turnstile.specs.declared.view.Stage.TheVariants.{Spent, Out, Waits, Inside}

-- f of each, added up
abbrev pub total : {X : Type 0} → (X → ℕ) → List X → ℕ
total f [] = 0
total f (x ∷ xs) = f x + total f xs

abbrev pub once : Bool → ℕ
once b = cond b 1 0

-- 1 where this is the ticket that is held
abbrev pub holds_ticket : ℕ → Stage → ℕ
holds_ticket t Spent = 0
holds_ticket t Out = 0
holds_ticket t (Waits u) = once (nat_eq t u)
holds_ticket t (Inside u) = once (nat_eq t u)

-- 1 where a ticket is held
abbrev pub has_ticket : Stage → ℕ
has_ticket Spent = 0
has_ticket Out = 0
has_ticket (Waits u) = 1
has_ticket (Inside u) = 1

pub record Tickets {E : Type 0} (next turn : ℕ) (views : List (View E)) : Type 0 where
  -- how many hold the ticket t
  pub each : (t : ℕ) → total (λ v. holds_ticket t v.stage) views ≡ once (nat_le turn t && nat_lt t next)
  -- how many are out
  pub out : turn + total (λ v. has_ticket v.stage) views ≡ next

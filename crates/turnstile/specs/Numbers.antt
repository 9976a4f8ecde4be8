-- Half of the fifth part of the rule: numbers are distinct and below the number of passes made, and so is the number of each new entry.
use Rattle.std.specs.Prelude.{◌≡◌, ℕ, ◌<◌, nat_eq, nat_lt, List, length, drop}
use Rattle.std.specs.List.{All}
use Rattle.turnstile.specs.declared.view.Part.{Part}
use Rattle.turnstile.specs.declared.view.View.{View}
use Rattle.turnstile.specs.Views.{parts}
use Rattle.turnstile.specs.Tickets.{total, once}

module _ {E : Type 0} where
  -- how many parts have the number n
  abbrev pub numbered : ℕ → List (Part E) → ℕ
  numbered n ps = total (λ p. once (nat_eq n p.number)) ps

  pub record Numbers (number : E → ℕ) (made opening : ℕ) (history : List E) (views : List (View E)) : Type 0 where
    pub each : (n : ℕ) → total (λ v. numbered n (parts v)) views ≡ once (nat_lt n made)
    pub all : total (λ v. length (parts v)) views ≡ made
    pub entries : All (λ e. number e < made) (drop opening history)

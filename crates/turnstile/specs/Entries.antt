-- Entries and their numbers. A part tallies with a list of entries where the list begins with what the part saw last,
-- and the entries behind the opening ones that carry the part's number are its own, in this list as in what it saw.
use Rattle.std.specs.Prelude.{◌≡◌, ℕ, ◌≤◌, List, ◌++◌, length, drop, filter, nat_eq}
use Rattle.std.specs.List.{All, sum_by}
use Rattle.turnstile.specs.declared.view.Part.{Part}

module _ {E : Type 0} where
  abbrev pub StartsWith : List E → List E → Type 0
  StartsWith entries front = (rest : List E) × (entries ≡ front ++ rest)

  -- the entries that carry a number
  abbrev pub carrying : (E → ℕ) → ℕ → List E → List E
  carrying number n entries = filter (λ e. nat_eq (number e) n) entries

  -- of the entries behind the opening ones, those that carry a number
  unfoldable pub added : (E → ℕ) → ℕ → ℕ → List E → List E
  added number opening n entries = carrying number n (drop opening entries)

  pub record Tallies (number : E → ℕ) (opening : ℕ) (entries : List E) (p : Part E) : Type 0 where
    pub begins : StartsWith entries p.seen
    pub later : opening ≤ length p.seen
    pub mine : added number opening p.number entries ≡ p.mine
    pub mine_seen : added number opening p.number p.seen ≡ p.mine

  -- parts whose own entries are all the entries behind the opening ones
  unfoldable pub HaveAll : ℕ → List E → List (Part E) → Type 0
  HaveAll opening entries parts = length (drop opening entries) ≡ sum_by (λ p. length p.mine) parts

  -- each new entry carries the number
  abbrev pub AllCarry : (E → ℕ) → ℕ → List E → Type 0
  AllCarry number n entries = All (λ e. number e ≡ n) entries

-- A roster: who is admitted, in order of admission, each a key with its share, and the limit of the shares in all.
use Rattle.std.specs.Prelude.{◌≢◌, ℕ, ◌≤◌, Bool, ◌==◌, not, List, [], length, filter, AllPairs}
use Rattle.std.specs.List.{list_any, sum_by}

pub record RosterState : Type 0 where
  pub entries : List (ℕ × ℕ)
  pub limit : ℕ

-- whether a key is there
unfoldable pub has_key : ℕ → List (ℕ × ℕ) → Bool
has_key key entries = list_any (λ entry. entry.0 == key) entries

-- the entries of all other keys
unfoldable pub others : ℕ → List (ℕ × ℕ) → List (ℕ × ℕ)
others key entries = filter (λ entry. not (entry.0 == key)) entries

-- the shares in all
unfoldable pub total : List (ℕ × ℕ) → ℕ
total entries = sum_by (λ entry. entry.1) entries

-- what holds of every roster: at most 128 entries, each with a key of its own, within the limit
pub record IsRoster (roster : RosterState) : Type 0 where
  pub few : length roster.entries ≤ 128
  pub own_keys : AllPairs (λ first second. first.0 ≢ second.0) roster.entries
  pub within_limit : total roster.entries ≤ roster.limit

unfoldable pub empty_roster : ℕ → RosterState
empty_roster limit = record { entries = []; limit = limit }

-- Admission: a share is refused exactly where it passes the limit together with the shares of all other keys.
-- What the key itself had before isn't counted.
use Rattle.std.specs.Prelude.{ℕ, ◌+◌, ◌-◌, Bool, nat_le, if◌then◌else◌, [], ◌∷◌, ◌++◌, Result, Ok, Err}
use Rattle.admit_core.specs.declared.over_budget.OverBudget.{OverBudget}
use Rattle.admit_core.specs.Roster.{RosterState, others, total}

-- whether a key's share fits beside the others
unfoldable pub fits : RosterState → ℕ → ℕ → Bool
fits roster key share = nat_le (total (others key roster.entries) + share) roster.limit

-- what the others leave of the limit
unfoldable pub left_for : RosterState → ℕ → ℕ
left_for roster key = roster.limit - total (others key roster.entries)

-- where it fits, the key stands last with its new share, and nowhere else
unfoldable pub admitted : RosterState → ℕ → ℕ → RosterState
admitted roster key share =
    if fits roster key share then record roster { entries = others key roster.entries ++ (key, share) ∷ [] } else roster

unfoldable pub admit_answer : RosterState → ℕ → ℕ → Result (Unit {0}) OverBudget
admit_answer roster key share =
    if fits roster key share then Ok tt else Err (record { need = share; left = left_for roster key })

-- a key that leaves has no entry, and the others stay
unfoldable pub dismissed : RosterState → ℕ → RosterState
dismissed roster key = record roster { entries = others key roster.entries }

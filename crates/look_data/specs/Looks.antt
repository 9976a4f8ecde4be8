-- Inner words of the proofs: the looks of the widgets whose numbers pass a test, each with its number.
use Rattle.std.specs.Prelude.{ℕ, ◌≡◌, ◌+◌, Bool, ◌&&◌, nat_eq, nat_le, nat_lt, is_some, List, [], ◌∷◌, Option, Some}
use Rattle.std.specs.List.{All, list_any}
use Rattle.std.specs.Option.{option_map_or}
use Rattle.arrayvec.specs.ArrayVec.{ArrayVec}
use Rattle.look_core.specs.Seen.{Seen}
use Rattle.look_data.specs.declared.data.LookData.{LookData}
use Rattle.look_data.specs.Data.{seen_in}

-- a kept look as contracts see it
abbrev pub seen_one : ℕ × LookData → ℕ × Seen
seen_one one = (one.0, seen_in one.1)

-- the number with its look, where it has one
abbrev pub look_at : ℕ → Option Seen → List (ℕ × Seen)
look_at id look = option_map_or (λ seen. (id, seen) ∷ []) look []

-- The list has the look of each number that passes the test, where it has one, and no other.
pub record AreLooks (test : ℕ → Bool) (look : ℕ → Option Seen) (looks : List (ℕ × Seen)) : Type 0 where
  pub numbers : (id : ℕ) → list_any (λ (one : ℕ × Seen). nat_eq id one.0) looks ≡ (test id && is_some (look id))
  pub each : All (λ (one : ℕ × Seen). look one.0 ≡ Some one.1) looks

-- the looks in the list, none where there is no list
abbrev pub items_in : Option (ArrayVec (ℕ × LookData)) → List (ℕ × LookData)
items_in looks = option_map_or (λ looks. looks.items) looks []

-- the number passes the test and is one of so many, from the first one on
abbrev pub passes_within : (ℕ → Bool) → ℕ → ℕ → ℕ → Bool
passes_within test first count id = (nat_le first id && nat_lt id (first + count)) && test id

-- An object may tell its bytes or not; no call changes whether it does.
use Rattle.std.specs.Prelude.{◌≡◌, ℕ, List, Option, is_some}

abbrev pub TellsAsBefore : Option (List ℕ) → Option (List ℕ) → Type 0
TellsAsBefore before now = is_some now ≡ is_some before

-- How the numbered rows lie in a slab: a table has the slab's key for each number, in the order of making.
use Rattle.std.specs.Prelude.{ℕ, ◌≡◌, List, [], ◌∷◌, Option, Some, None, is_some, true, false, nat_eq}
use Rattle.widget_model.specs.Rows.{Row}

-- the numbered rows, where `at` is what the slab has at a key
abbrev pub shown_one : ℕ → Option Row → List (ℕ × Row) → List (ℕ × Row)
shown_one id None rest = rest
shown_one id (Some row) rest = (id, row) ∷ rest

abbrev pub shown : (ℕ → Option Row) → List (ℕ × ℕ) → List (ℕ × Row)
shown at [] = []
shown at (e ∷ es) = shown_one e.0 (at e.1) (shown at es)

-- no later entry has this number or key
abbrev pub IsApart : ℕ × ℕ → List (ℕ × ℕ) → Type 0
IsApart e [] = Unit {0}
IsApart e (f ∷ fs) = (nat_eq e.0 f.0 ≡ false) × (nat_eq e.1 f.1 ≡ false) × IsApart e fs

-- each key has a row, and no two entries have one number or one key
abbrev pub IsShown : (ℕ → Option Row) → List (ℕ × ℕ) → Type 0
IsShown at [] = Unit {0}
IsShown at (e ∷ es) = (is_some (at e.1) ≡ true) × IsApart e es × IsShown at es

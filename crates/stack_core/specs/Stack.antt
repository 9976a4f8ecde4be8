-- A stack is the list of its keys from top to bottom: at most 128, and no key twice.
use Rattle.std.specs.Prelude.{◌≡◌, ℕ, ◌≤◌, Bool, false, ◌||◌, nat_eq, List, [], ◌∷◌, length, if◌then◌else◌}

-- how many keys a stack may have
abbrev pub most_keys : ℕ
most_keys = 128

-- whether the key is in the list
abbrev pub holds_key : List ℕ → ℕ → Bool
holds_key [] key = false
holds_key (k ∷ ks) key = nat_eq k key || holds_key ks key

-- the other keys, in their order
abbrev pub without : List ℕ → ℕ → List ℕ
without [] key = []
without (k ∷ ks) key = if nat_eq k key then without ks key else k ∷ without ks key

-- no key is in the list twice
abbrev pub AreDistinct : List ℕ → Type 0
AreDistinct [] = Unit {0}
AreDistinct (k ∷ ks) = (holds_key ks k ≡ false) × AreDistinct ks

-- what is true of every stack
pub record IsStack (keys : List ℕ) : Type 0 where
  pub few : length keys ≤ most_keys
  pub distinct : AreDistinct keys

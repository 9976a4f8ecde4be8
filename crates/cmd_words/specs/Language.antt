-- How productions of the grammar are joined. A language says of bytes which things they stand for.
use Rattle.std.specs.Prelude.{◌≡◌, ℕ, Bool, IsTrue, List, [], ◌++◌, ◌⊎◌, codes}
use Prim.Native.String.{String}

abbrev pub Language : Type 0 → Type 1
Language C = List ℕ → C → Type 0

-- first a word of P, and then what rest goes on with
pub record Then {C : Type 0} (P : List ℕ → Type 0) (rest : Language C) (xs : List ℕ) (c : C) : Type 0 where
  pub front : List ℕ
  pub after : List ℕ
  pub split : xs ≡ front ++ after
  pub word : P front
  pub goes_on : rest after c

-- first what stands for some value, and then what rest goes on with for this value
pub record With {A C : Type 0} (P : Language A) (rest : A → Language C) (xs : List ℕ) (c : C) : Type 0 where
  pub front : List ℕ
  pub after : List ℕ
  pub value : A
  pub split : xs ≡ front ++ after
  pub stands : P front value
  pub goes_on : rest value after c

infixr 4 ◌▹◌ ◌▸◌
abbrev pub ◌▹◌ : {C : Type 0} → (List ℕ → Type 0) → Language C → Language C
P ▹ rest = Then P rest

abbrev pub ◌▸◌ : {A C : Type 0} → Language A → (A → Language C) → Language C
P ▸ rest = With P rest

infixr 3 ◌⊕◌
-- the one or the other
abbrev pub ◌⊕◌ : {C : Type 0} → Language C → Language C → Language C
(L ⊕ M) xs c = L xs c ⊎ M xs c

-- L, but only where the test holds
abbrev pub only : {C : Type 0} → Bool → Language C → Language C
only test L xs c = IsTrue test × L xs c

-- any of some alternatives
abbrev pub any : {A C : Type 0} → (A → Language C) → Language C
any {A} L xs c = (a : A) × L a xs c

-- nothing more, which stands for c
abbrev pub stands_for : {C : Type 0} → C → Language C
stands_for c xs d = (xs ≡ []) × (d ≡ c)

-- just these characters
abbrev pub word : String → List ℕ → Type 0
word text u = u ≡ codes text

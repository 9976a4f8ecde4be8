-- Options that have a value, or have none.
use Rattle.std.proofs.Common.{◌≡◌, ℕ, true, false, Option, Some, None, is_some, refl, sym, Bor}
use Rattle.std.proofs.lemmas.Bool.{true≢false}
use Rattle.std.specs.Option.{option_copied}

-- a value where there is one, and none where there is none
pub none_or_some : {X : Type 0} (o : Option X) → is_some o ≡ true → (x : X) × (o ≡ Some x)
none_or_some None h = absurd (true≢false (sym h))
none_or_some (Some x) h = (x, refl)

pub is_none_of : {X : Type 0} (o : Option X) → is_some o ≡ false → o ≡ None
is_none_of None h = refl
is_none_of (Some x) h = absurd (true≢false h)

-- a copy is there where the value is
pub is_some-copied : {X : Type 0} (o : Option (Bor X)) → is_some (option_copied o) ≡ is_some o
is_some-copied None = refl
is_some-copied (Some x) = refl

-- two numbers that are there together or not at all are the same
pub option_same : (a b : Option ℕ) → ((n : ℕ) → a ≡ Some n → b ≡ Some n) → ((n : ℕ) → b ≡ Some n → a ≡ Some n) → a ≡ b
option_same None None f g = refl
option_same None (Some n) f g = g n refl
option_same (Some n) b f g = sym (f n refl)

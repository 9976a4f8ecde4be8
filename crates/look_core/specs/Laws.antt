-- What holds of looks.
use Rattle.std.specs.Prelude.{◌≡◌, ℕ, true}
use Rattle.look_core.specs.Seen.{Seen}
use Rattle.look_core.specs.Colour.{colour_of}
use Rattle.look_core.specs.Same.{same_look}

-- the test of two looks tells exactly whether they are equal
abbrev pub SameAreEqual : Type 0
SameAreEqual = (a b : Seen) → (same_look a b ≡ true → a ≡ b) × (a ≡ b → same_look a b ≡ true)

-- widgets of one size with the same look show equal pixels
abbrev pub EqualPixels : Type 0
EqualPixels = (a b : Seen) (w h u v : ℕ) → same_look a b ≡ true → colour_of a w h u v ≡ colour_of b w h u v

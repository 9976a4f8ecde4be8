-- An inner word of the proofs: what lies over what, widgets going by their numbers.
use Rattle.std.specs.Prelude.{ℕ, ℤ, List, Option}
use Rattle.geom_core.specs.declared.rectangle.Rect.{Rect}

-- The place of each widget; the slots below a widget, or, below none, those of the windows from the top, some of them
-- empty; and the colour of each pixel that a widget shows, or that none does.
pub record Layers : Type 0 where
  pub rect : ℕ → Rect
  pub below : Option ℕ → List (Option ℕ)
  pub colour : Option ℕ → ℤ → ℤ → ℕ

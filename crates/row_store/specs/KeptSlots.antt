-- The kept places as they lie in memory: slots are made client by client, and one that isn't made yet counts as empty.
use Rattle.std.specs.Prelude.{ℕ, ◌++◌, ◌-◌, List, length, replicate, Option, None}
use Rattle.geom_core.specs.declared.rectangle.Rect.{Rect}
use Rattle.widget_model.specs.KeptPlaces.{most_numbers}

-- the slots of all numbers, and how many of them are made
pub record Kept : Type 0 where
  pub slots : List (Option Rect)
  pub made : ℕ

-- the slots that are made, and empty ones up to so many
abbrev pub filled_up : ℕ → List (Option Rect) → List (Option Rect)
filled_up most places = places ++ replicate (most - length places) None

abbrev pub kept_of : List (Option Rect) → Kept
kept_of places = record { slots = filled_up most_numbers places; made = length places }

-- The windows that are put higher between two shots: a list that has just their numbers.
use Rattle.std.specs.Prelude.{ℕ, ◌≡◌, nat_eq, List}
use Rattle.std.specs.List.{list_any}
use Rattle.shot_core.specs.Shot.{Seen, windows_in}
use Rattle.damage_rules.specs.Areas.{is_higher_in}

pub record AreRaised (before after : Seen) (windows : List ℕ) : Type 0 where
  pub each : (window : ℕ) → list_any (nat_eq window) windows ≡ is_higher_in (windows_in before) (windows_in after) window

-- Numbers that stay with their widgets while these live.
use Rattle.std.specs.Prelude.{ℕ, ◌≡◌, List, Some}
use Rattle.widget_model.specs.Rows.{Row}
use Rattle.widget_model.specs.Widgets.{key_at}

-- A number that names a widget before and after names one key, and a key that is there before and after has one number.
pub record KeepsNumbers (old new : List (ℕ × Row)) : Type 0 where
  pub keys : (id : ℕ) (before after : ℕ × List ℕ) → key_at old id ≡ Some before → key_at new id ≡ Some after → before ≡ after
  pub numbers : (key : ℕ × List ℕ) (before after : ℕ) → key_at old before ≡ Some key → key_at new after ≡ Some key → before ≡ after

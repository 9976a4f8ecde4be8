-- Inner words of the proofs: what the layout of a window is made from, which is its own row and those of the widgets
-- under it, in the order of making, and the values of the Variables that these are linked to. While they stay, so does
-- each place.
use Rattle.std.specs.Prelude.{◌≡◌, ℕ, Bool, List, Some, slice_get}
use Rattle.std.specs.List.{filter}
use Rattle.widget_model.specs.Rows.{Row}
use Rattle.widget_model.specs.Named.{AreNamedApart}
use Rattle.widget_model.specs.Keys.{key_of, same_key, row_of, root_key}
use Rattle.widget_model.specs.Planted.{IsPlanted}
use Rattle.scene_model.specs.Values.{linked_value}
use Rattle.scene_model.specs.Placing.{place_in}

-- whether the row is the window's or that of a widget under it
abbrev pub is_in_window : List Row → ℕ × List ℕ → Row → Bool
is_in_window rows window row = same_key window (root_key rows (key_of row))

unfoldable pub window_rows : List Row → ℕ × List ℕ → List Row
window_rows rows window = filter (is_in_window rows window) rows

-- the window's rows and what they are linked to are the same in both
pub record KeepsWindow (window : ℕ × List ℕ) (before after : List Row) : Type 0 where
  pub rows : window_rows after window ≡ window_rows before window
  pub values : (i : ℕ) (row : Row) → slice_get (window_rows before window) i ≡ Some row → linked_value after row ≡ linked_value before row

-- What holds of all rows, for this.
pub record AreHung (rows : List Row) : Type 0 where
  pub names : AreNamedApart rows
  pub planted : IsPlanted rows

-- Then each of the window's places is the same.
abbrev pub PlacesStay : Type 0
PlacesStay =
    (window : ℕ × List ℕ) (before after : List Row) → AreHung before → AreHung after → KeepsWindow window before after
    → (i : ℕ) (row : Row) → slice_get (window_rows before window) i ≡ Some row → place_in after row ≡ place_in before row

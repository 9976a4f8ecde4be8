-- An inner word of the proofs: the row with a number, as a value; of a number that names none it says nothing.
use Rattle.std.specs.Prelude.{ℕ, List, [], unwrap_or}
use Rattle.kind_core.specs.declared.kinds.Kind.TheVariants.{Window}
use Rattle.widget_model.specs.Rows.{Row, new_row}
use Rattle.widget_model.specs.Widgets.{row_at}

unfoldable pub numbered : List (ℕ × Row) → ℕ → Row
numbered entries id = unwrap_or (row_at entries id) (new_row 0 [] Window)

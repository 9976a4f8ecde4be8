-- Rows whose values, rules and films are within their limits, and which hang right in one another; and texts.
use Rattle.std.specs.Prelude.{◌≡◌, ◌≤◌, ℕ, true, List, length}
use Rattle.std.specs.List.{list_all}
use Rattle.kind_core.specs.Bytes.{is_printable}
use Rattle.widget_model.specs.Rows.{Row}
use Rattle.widget_model.specs.Planted.{IsPlanted}
use Rattle.widget_model.specs.Fitting.{fits_table, fits_rules, HaveFitFilms}

-- so many bytes at the most, each of which prints
pub record IsTextOf (most : ℕ) (text : List ℕ) : Type 0 where
  pub length : length text ≤ most
  pub printable : list_all is_printable text ≡ true

pub record AreFit (rows : List Row) : Type 0 where
  pub planted : IsPlanted rows
  pub values : list_all fits_table rows ≡ true
  pub rules : list_all fits_rules rows ≡ true
  pub films : HaveFitFilms rows

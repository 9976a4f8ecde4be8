-- The table of children has the number of each child, at the place of its cell.
use Rattle.std.specs.Prelude.{ℕ, ◌≡◌, List, [], Option, None, slice_index_or}
use Rattle.kind_core.specs.declared.kinds.Kind.{Kind}
use Rattle.kind_core.specs.declared.kinds.Kind.TheVariants.{Window, Grid, Frame}
use Rattle.widget_model.specs.Rows.{Row, IsIndex}
use Rattle.widget_model.specs.Widgets.{Widgets}
use Rattle.widget_model.specs.Relatives.{child_id}
use Rattle.row_store.specs.CellTable.{cell_offset}

-- how many cells a widget of the kind has
abbrev pub cells_of : Kind → ℕ
cells_of Window = 1
cells_of Grid = 256
cells_of Frame = 1
cells_of _ = 0

-- the numbered rows with no word on clients and kept places
abbrev pub widgets_in : List (ℕ × Row) → Widgets
widgets_in entries = record { clients = []; entries = entries; places = [] }

-- The table has the number of the child in each cell of each widget.
pub record HasChildren (entries : List (ℕ × Row)) (cells : List (Option ℕ)) : Type 0 where
  pub each : (id column line : ℕ) → IsIndex column → IsIndex line → slice_index_or cells (cell_offset id column line) None ≡ child_id (widgets_in entries) id column line

-- What holds of how widgets hang in one another, and of their values, at every moment.
use Rattle.std.specs.Prelude.{◌≡◌, ◌∷◌, [], Bool, true, false, ◌&&◌, nat_le, nat_eq, List, is_none}
use Rattle.std.specs.List.{list_all}
use Rattle.std.specs.Option.{option_map_or}
use Rattle.kind_core.specs.declared.kinds.Kind.{Kind}
use Rattle.kind_core.specs.declared.kinds.Kind.TheVariants.{Window, Frame}
use Rattle.kind_core.specs.declared.shapes.Cell.{Cell}
use Rattle.widget_model.specs.Rows.{Row}
use Rattle.widget_model.specs.Named.{row_named}
use Rattle.widget_model.specs.Trees.{has_children, can_be_child, child_in, ends_within, most_levels}

-- columns and rows are 1 to 16, a pad is at most 16 pixels
abbrev pub is_cell : Cell → Bool
is_cell cell = (nat_le 1 cell.column && nat_le cell.column 16) && ((nat_le 1 cell.row && nat_le cell.row 16) && nat_le cell.pad 16)

-- A Window or Frame has one cell, in column 1 and row 1.
abbrev pub takes_cell : Kind → Cell → Bool
takes_cell Window cell = is_cell cell && (nat_eq cell.column 1 && nat_eq cell.row 1)
takes_cell Frame cell = is_cell cell && (nat_eq cell.column 1 && nat_eq cell.row 1)
takes_cell _ cell = is_cell cell

-- whether a widget of the kind has that cell
abbrev pub has_cell : Kind → Cell → Bool
has_cell kind cell = has_children kind && takes_cell kind cell

-- A row that hangs in another can be a child, and the other is a row of the same client with that cell.
abbrev pub hangs_right : List Row → Row → Bool
hangs_right rows row = option_map_or (λ attached. can_be_child row.kind && option_map_or (λ parent. has_cell parent.kind attached.1) (row_named rows row.client attached.0) false) row.attached true

-- No later row stands in the cell in which this one stands.
abbrev pub is_alone : List Row → Row → Bool
is_alone later row = option_map_or (λ attached. is_none (child_in later row.client attached.0 attached.1.column attached.1.row)) row.attached true

-- No two rows stand in one cell.
abbrev pub HaveOwnCells : List Row → Type 0
HaveOwnCells [] = Unit {0}
HaveOwnCells (row ∷ rows) = (is_alone rows row ≡ true) × HaveOwnCells rows

pub record IsPlanted (rows : List Row) : Type 0 where
  pub hang : list_all (hangs_right rows) rows ≡ true
  pub own_cells : HaveOwnCells rows
  pub low : list_all (λ row. ends_within most_levels rows row.client row.name) rows ≡ true

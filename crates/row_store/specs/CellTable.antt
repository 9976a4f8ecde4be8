-- The table of children's cells: each widget has 256 of its own, one for each cell of a Grid, and the number of the child
-- in a cell stands at the cell's offset.
use Rattle.std.specs.Prelude.{ℕ, ◌+◌, ◌-◌, ◌*◌}

-- the offset of the cell in that column and row, 1 to 16, of the widget with that number
abbrev pub cell_offset : ℕ → ℕ → ℕ → ℕ
cell_offset id column line = id * 256 + (column - 1) * 16 + (line - 1)

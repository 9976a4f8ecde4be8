-- The numbers of the widgets above, in and at the root of a numbered one.
use Rattle.std.specs.Prelude.{ℕ, Option}
use Rattle.std.specs.Option.{option_and_then}
use Rattle.widget_model.specs.Nodes.{id_named}
use Rattle.widget_model.specs.Trees.{child_in, root_of}
use Rattle.widget_model.specs.Widgets.{Widgets, nodes, rows_of, row_at}

-- the parent's number
abbrev pub parent_id : Widgets → ℕ → Option ℕ
parent_id widgets id =
    option_and_then (λ row. option_and_then (λ attached. id_named (nodes widgets.entries) row.client attached.0) row.attached) (row_at widgets.entries id)

-- the number of the child in that column and row
abbrev pub child_id : Widgets → ℕ → ℕ → ℕ → Option ℕ
child_id widgets id column line =
    option_and_then (λ row. option_and_then (λ child. id_named (nodes widgets.entries) child.client child.name) (child_in (rows_of widgets) row.client row.name column line)) (row_at widgets.entries id)

-- the root's number
abbrev pub root_id : Widgets → ℕ → Option ℕ
root_id widgets id =
    option_and_then (λ row. id_named (nodes widgets.entries) row.client (root_of (rows_of widgets) row.client row.name)) (row_at widgets.entries id)

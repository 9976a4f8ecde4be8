-- A row may be linked to a Variable of the same client, by that Variable's name: the same by numbers.
use Rattle.std.specs.Prelude.{ℕ, List, Option}
use Rattle.std.specs.Option.{option_map, option_and_then}
use Rattle.widget_model.specs.Rows.{Row}
use Rattle.widget_model.specs.Nodes.{id_named}
use Rattle.widget_model.specs.Widgets.{Widgets, nodes, row_at}

-- the number of the row that the numbered row is linked to
abbrev pub linked_id : Widgets → ℕ → Option ℕ
linked_id widgets id = option_and_then (λ row. option_and_then (id_named (nodes widgets.entries) row.client) row.link) (row_at widgets.entries id)

-- the name of the numbered row
abbrev pub name_at : List (ℕ × Row) → ℕ → Option (List ℕ)
name_at entries id = option_map (λ row. row.name) (row_at entries id)

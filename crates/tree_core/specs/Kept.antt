-- An inner word of the proofs: what the parts of a tree keep together, the rows, the index of their names, the table
-- of children's cells, the counts of each client and the kept places.
use Rattle.std.specs.Prelude.{ℕ, ◌≡◌, ◌≤◌, ◌*◌, true, List, Option, length}
use Rattle.widget_model.specs.Rows.{Row}
use Rattle.widget_model.specs.Named.{AreNamedApart}
use Rattle.widget_model.specs.Widgets.{Widgets, nodes}
use Rattle.widget_model.specs.Clients.{is_joined}
use Rattle.widget_model.specs.Forest.{HaveOwnNumbers, IsWidgets}
use Rattle.widget_model.specs.Planted.{IsPlanted}
use Rattle.row_store.specs.declared.count.Count.{Count}
use Rattle.row_store.specs.Counts.{AreCounts}
use Rattle.row_store.specs.Index.{IsIndexed}
use Rattle.row_store.specs.KeptSlots.{Kept}
use Rattle.widget_model.specs.Widgets.{rows_in}
use Rattle.tree_core.specs.Children.{HasChildren}

-- The rows have their own numbers and names and hang right in one another.
pub record IsGrove (entries : List (ℕ × Row)) : Type 0 where
  pub own_numbers : HaveOwnNumbers (nodes entries)
  pub own_names : AreNamedApart (rows_in entries)
  pub planted : IsPlanted (rows_in entries)

-- The parts of a tree.
pub record Parts : Type 0 where
  pub clients : List ℕ
  pub names : List ((ℕ × List ℕ) × ℕ)
  pub entries : List (ℕ × Row)
  pub cells : List (Option ℕ)
  pub counts : List Count
  pub kept : Kept

-- the widgets that they are
abbrev pub widgets_of : Parts → Widgets
widgets_of parts = record { clients = parts.clients; entries = parts.entries; places = parts.kept.slots }

-- Of the widgets what always holds; the index finds their names, the counts count them, and the table has their
-- children. There are cells and slots for all numbers of joined clients.
pub record IsTree (parts : Parts) : Type 0 where
  pub widgets : IsWidgets (widgets_of parts)
  pub indexed : IsIndexed parts.names (nodes parts.entries)
  pub counted : AreCounts parts.counts (rows_in parts.entries)
  pub children : HasChildren parts.entries parts.cells
  pub reach : (client : ℕ) → is_joined parts.clients client ≡ true → 32768 * client ≤ length parts.cells
  pub made : (client : ℕ) → is_joined parts.clients client ≡ true → 128 * client ≤ parts.kept.made

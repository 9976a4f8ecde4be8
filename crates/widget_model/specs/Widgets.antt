-- The widgets of a desk: the joined clients in the order of joining, the rows in the order of making, each with
-- its number, and the places that are kept of the widgets. A row is named by its client and name; a number names
-- its row until that row is removed.
use Rattle.std.specs.Prelude.{ℕ, ◌≡◌, not, nat_eq, List, [], ◌∷◌, ◌++◌, map, Option, Some, None, IsSome, if◌then◌else◌}
use Rattle.std.specs.List.{filter}
use Rattle.std.specs.Option.{option_map}
use Rattle.geom_core.specs.declared.rectangle.Rect.{Rect}
use Rattle.kind_core.specs.declared.kinds.Kind.{Kind}
use Rattle.kind_core.specs.declared.kinds.Kind.TheVariants.{Grid}
use Rattle.widget_model.specs.Rows.{Row}
use Rattle.widget_model.specs.Nodes.{Node, node_of}
use Rattle.widget_model.specs.Keys.{key_of}
use Rattle.widget_model.specs.KeptPlaces.{no_places, place_in, placed, unplaced}

pub record Widgets : Type 0 where
  pub clients : List ℕ
  pub entries : List (ℕ × Row)
  pub places : List (Option Rect)

-- At first there are none.
abbrev pub no_widgets : Widgets
no_widgets = record { clients = []; entries = []; places = no_places }

-- the rows in the order of making, of numbered rows and of all widgets
abbrev pub rows_in : List (ℕ × Row) → List Row
rows_in entries = map (λ entry. entry.1) entries

abbrev pub rows_of : Widgets → List Row
rows_of widgets = rows_in widgets.entries

-- the nodes of the numbered rows
abbrev pub nodes : List (ℕ × Row) → List (ℕ × Node)
nodes [] = []
nodes (entry ∷ entries) = (entry.0, node_of entry.1) ∷ nodes entries

-- the row with this number
abbrev pub row_at : List (ℕ × Row) → ℕ → Option Row
row_at [] id = None
row_at (entry ∷ entries) id = if nat_eq id entry.0 then Some entry.1 else row_at entries id

-- a number is live while it names a row
abbrev pub IsLive : Widgets → ℕ → Type 0
IsLive widgets id = IsSome (row_at widgets.entries id)

-- each number that was live is live still
abbrev pub KeepsLive : Widgets → Widgets → Type 0
KeepsLive old new = (id : ℕ) → IsLive old id → IsLive new id

-- the kind and the client of the numbered row
abbrev pub row_kind : List (ℕ × Row) → ℕ → Option Kind
row_kind entries id = option_map (λ row. row.kind) (row_at entries id)

abbrev pub row_client : List (ℕ × Row) → ℕ → Option ℕ
row_client entries id = option_map (λ row. row.client) (row_at entries id)

-- the key of the numbered row
abbrev pub key_at : List (ℕ × Row) → ℕ → Option (ℕ × List ℕ)
key_at entries id = option_map key_of (row_at entries id)

-- the number names a Grid
abbrev pub IsGrid : Widgets → ℕ → Type 0
IsGrid widgets id = row_kind widgets.entries id ≡ Some Grid

-- the entries with the numbered row changed
abbrev pub with_row : ℕ → (Row → Row) → List (ℕ × Row) → List (ℕ × Row)
with_row id change [] = []
with_row id change (entry ∷ entries) = (if nat_eq id entry.0 then (entry.0, change entry.1) else entry) ∷ with_row id change entries

-- the entries without the numbered row
abbrev pub without_row : ℕ → List (ℕ × Row) → List (ℕ × Row)
without_row id [] = []
without_row id (entry ∷ entries) = if nat_eq id entry.0 then without_row id entries else entry ∷ without_row id entries

-- the same on all widgets
abbrev pub edited : ℕ → (Row → Row) → Widgets → Widgets
edited id change widgets = record widgets { entries = with_row id change widgets.entries }

-- A new row has no kept place, since its number had none; a removed one leaves none.
abbrev pub with_new : ℕ → Row → Widgets → Widgets
with_new id row widgets = record widgets { entries = widgets.entries ++ (id, row) ∷ [] }

abbrev pub removed : ℕ → Widgets → Widgets
removed id widgets = record widgets { entries = without_row id widgets.entries; places = placed id None widgets.places }

abbrev pub joined : ℕ → Widgets → Widgets
joined client widgets = record widgets { clients = widgets.clients ++ client ∷ [] }

-- the place that is kept of the numbered widget, none where none is
abbrev pub place_at : Widgets → ℕ → Option Rect
place_at widgets id = place_in widgets.places id

-- the widgets with that place kept of the numbered one
abbrev pub with_place : ℕ → Option Rect → Widgets → Widgets
with_place id place widgets = record widgets { places = placed id place widgets.places }

-- the widgets of all clients but one, with what is kept of theirs
abbrev pub departed : ℕ → Widgets → Widgets
departed client widgets =
    record {
      clients = filter (λ other. not (nat_eq client other)) widgets.clients;
      entries = filter (λ entry. not (nat_eq client entry.1.client)) widgets.entries;
      places = unplaced client widgets.places;
    }

-- What holds of the numbered widgets at every moment: what holds of the rows, and what holds of their numbers.
use Rattle.std.specs.Prelude.{ℕ, ◌≡◌, true, List, [], ◌∷◌, length, Option, None}
use Rattle.std.specs.List.{list_all}
use Rattle.geom_core.specs.declared.rectangle.Rect.{Rect}
use Rattle.widget_model.specs.Nodes.{Node, node_at, is_number_of}
use Rattle.widget_model.specs.Rows.{Row}
use Rattle.widget_model.specs.KeptPlaces.{most_numbers, place_in}
use Rattle.widget_model.specs.Widgets.{Widgets, nodes, rows_of, row_at}
use Rattle.widget_model.specs.Clients.{is_client}
use Rattle.widget_model.specs.RowFacts.{AreRows}

-- No two nodes have one number.
abbrev pub HaveOwnNumbers : List (ℕ × Node) → Type 0
HaveOwnNumbers [] = Unit {0}
HaveOwnNumbers (entry ∷ entries) = (node_at entries entry.0 ≡ None) × HaveOwnNumbers entries

-- Numbers are each node's own, and each is one of its client's 128.
pub record AreNumbered (entries : List (ℕ × Node)) : Type 0 where
  pub own_numbers : HaveOwnNumbers entries
  pub numbers : list_all (λ entry. is_number_of entry.1.client entry.0) entries ≡ true

-- There is a slot for the place of each number, and only a live number's has one.
pub record ArePlaces (entries : List (ℕ × Row)) (places : List (Option Rect)) : Type 0 where
  pub slots : length places ≡ most_numbers
  pub live : (id : ℕ) → row_at entries id ≡ None → place_in places id ≡ None

-- Each joined client is 1 to 16, of the rows and of their numbers the same holds always, and only live numbers have kept
-- places.
pub record IsWidgets (widgets : Widgets) : Type 0 where
  pub clients : list_all is_client widgets.clients ≡ true
  pub rows : AreRows widgets.clients (rows_of widgets)
  pub numbered : AreNumbered (nodes widgets.entries)
  pub placed : ArePlaces widgets.entries widgets.places

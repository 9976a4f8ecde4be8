-- What an input's values leave of the numbered widgets.
use Rattle.std.specs.Prelude.{◌≡◌, List}
use Rattle.widget_model.specs.Rows.{Row}
use Rattle.widget_model.specs.Widgets.{Widgets, nodes, rows_of}

-- The new widgets have those rows. The node of each number, its name, kind and parent, stays, and so do the clients and
-- the kept places.
pub record HasRows (old new : Widgets) (left : List Row) : Type 0 where
  pub rows : rows_of new ≡ left
  pub nodes : nodes new.entries ≡ nodes old.entries
  pub clients : new.clients ≡ old.clients
  pub places : new.places ≡ old.places

-- A client's widgets as they are laid out, one of its Windows after the other.
use Rattle.std.specs.Prelude.{ℕ, ◌≡◌, ◌+◌, Bool, true, false, ◌&&◌, nat_lt, List, Option, Some, None, if◌then◌else◌}
use Rattle.std.specs.Option.{option_map_or}
use Rattle.geom_core.specs.declared.rectangle.Rect.{Rect}
use Rattle.widget_model.specs.Rows.{Row}
use Rattle.widget_model.specs.Nodes.{first_number, is_number_of}
use Rattle.widget_model.specs.Kinds.{is_window_kind}
use Rattle.widget_model.specs.Widgets.{Widgets, rows_of, row_at, place_at}
use Rattle.widget_model.specs.Forest.{IsWidgets}
use Rattle.widget_model.specs.Relatives.{root_id}
use Rattle.scene_model.specs.Placing.{place_in}
use Rattle.scene_model.specs.DuePlaces.{due_place}
use Rattle.scene_core.specs.Laid.{with_places}

-- the number names a Window
abbrev pub is_window_at : List (ℕ × Row) → ℕ → Bool
is_window_at entries id = option_map_or (λ row. is_window_kind row.kind) (row_at entries id) false

-- Only kept places have changed, and those of the client's own numbers alone.
pub record ChangesPlacesOf (client : ℕ) (old new : Widgets) : Type 0 where
  pub same : new ≡ with_places new.places old
  pub valid : IsWidgets new
  pub others : (id : ℕ) → is_number_of client id ≡ false → place_at new id ≡ place_at old id

-- so many of the client's slots, from the first one on, are empty
pub record AreEmptied (client count : ℕ) (old new : Widgets) : Type 0 where
  pub changed : ChangesPlacesOf client old new
  pub none : (id : ℕ) → is_number_of client id ≡ true → nat_lt id (first_number client + count) ≡ true → place_at new id ≡ None

-- the place of a widget with that root, where the Windows with a number below the limit are laid out
abbrev pub place_below : ℕ → Widgets → ℕ → Row → Option Rect
place_below limit widgets root row = if nat_lt root limit && is_window_at widgets.entries root then Some (place_in (rows_of widgets) row) else None

-- the widgets under so many of the client's numbers, from the first one on, are laid out
pub record AreLaidTo (client count : ℕ) (old new : Widgets) : Type 0 where
  pub changed : ChangesPlacesOf client old new
  pub own : (id root : ℕ) (row : Row) → row_at old.entries id ≡ Some row → row.client ≡ client → root_id old id ≡ Some root → place_at new id ≡ place_below (first_number client + count) old root row

-- and so all of them are
pub record AreLaidOut (client : ℕ) (old new : Widgets) : Type 0 where
  pub changed : ChangesPlacesOf client old new
  pub own : (id : ℕ) (row : Row) → row_at old.entries id ≡ Some row → row.client ≡ client → place_at new id ≡ due_place (rows_of old) row

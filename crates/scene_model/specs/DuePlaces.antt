-- Which widgets have a place: those whose root is a Window, each Window among them. No other widget has one.
use Rattle.std.specs.Prelude.{ℕ, List, Option, Some, None, if◌then◌else◌}
use Rattle.geom_core.specs.declared.rectangle.Rect.{Rect}
use Rattle.widget_model.specs.Rows.{Row}
use Rattle.widget_model.specs.Named.{is_kind_of}
use Rattle.widget_model.specs.Kinds.{is_window_kind}
use Rattle.widget_model.specs.Keys.{key_of, row_of, root_key}
use Rattle.scene_model.specs.Placing.{place_in}

unfoldable pub due_place : List Row → Row → Option Rect
due_place rows row =
    if is_kind_of is_window_kind (row_of rows (root_key rows (key_of row))) then Some (place_in rows row) else None

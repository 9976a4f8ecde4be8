-- The pointer as definitions have it: the widgets that it holds are named by their keys. A number that names no row
-- holds nothing.
use Rattle.std.specs.Prelude.{ℕ, List}
use Rattle.std.specs.Option.{option_map_or, option_and_then}
use Rattle.widget_model.specs.Rows.{Row}
use Rattle.widget_model.specs.Widgets.{key_at}
use Rattle.widget_model.specs.Pointer as model
use Rattle.widget_model.specs.Pointer.{no_grab, on_widget, drags}
use Rattle.tree_core.specs.declared.pointer.Grab.{Grab}
use Rattle.tree_core.specs.declared.pointer.Grab.TheVariants.{Nothing, Widget, Drag}
use Rattle.tree_core.specs.declared.pointer.Pointer.{Pointer}

abbrev pub grab_seen : List (ℕ × Row) → Grab → model.Grab
grab_seen entries Nothing = no_grab
grab_seen entries (Widget id) = option_map_or on_widget (key_at entries id.key) no_grab
grab_seen entries (Drag id dx dy) = option_map_or (λ key. drags key dx dy) (key_at entries id.key) no_grab

abbrev pub pointer_seen : List (ℕ × Row) → Pointer → model.Pointer
pointer_seen entries pointer =
    record {
      x = pointer.x;
      y = pointer.y;
      down = pointer.down;
      grab = grab_seen entries pointer.grab;
      focus = option_and_then (λ id. key_at entries id.key) pointer.focus;
    }

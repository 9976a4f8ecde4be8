-- What an input asks for in a scene: the widget that is hit is the top one at the pointer's pixel.
use Rattle.std.specs.Prelude.{◌≡◌, ℕ, pos, true, List, Option}
use Rattle.std.specs.Option.{option_map}
use Rattle.geom_core.specs.declared.rectangle.Rect.{Rect}
use Rattle.cmd_words.specs.declared.inputs.Input.{Input}
use Rattle.widget_model.specs.Rows.{Row}
use Rattle.widget_model.specs.Kinds.{is_window_kind}
use Rattle.widget_model.specs.Named.{is_kind_of}
use Rattle.widget_model.specs.Keys.{row_of, root_key}
use Rattle.widget_model.specs.Widgets.{Widgets, rows_of}
use Rattle.scene_model.specs.Scene.{Scene}
use Rattle.scene_model.specs.Showing.{place_of, top_of}
use Rattle.tree_core.specs.declared.pointer.Grab.{Grab}
use Rattle.tree_core.specs.declared.pointer.Grab.TheVariants.{Nothing, Widget, Drag}
use Rattle.desk_model.specs.InputEffects.{Hit, Effects}
use Rattle.desk_model.specs.Inputs.{effects_of}
use Rattle.desk_model.specs.Feeding.{grabbed}
use Rattle.input_core.specs.Seen.{key_seen}

abbrev pub hit_in : Scene → Option Hit
hit_in scene =
    option_map (λ key. record { key = key; place = place_of scene key }) (top_of scene (pos scene.pointer.x) (pos scene.pointer.y))

abbrev pub held_in : Scene → Option Rect
held_in scene = option_map (place_of scene) (grabbed scene.pointer.grab)

abbrev pub effects_in : Scene → Input → Effects
effects_in scene input = effects_of scene.rows scene.pointer (hit_in scene) (held_in scene) scene.width scene.height input

-- The widget is a Window or under one.
abbrev pub IsUnderWindow : List Row → ℕ × List ℕ → Type 0
IsUnderWindow rows key = is_kind_of is_window_kind (row_of rows (root_key rows key)) ≡ true

-- So is the grabbed one, where there is one.
abbrev pub GrabIsUnderWindow : Widgets → Grab → Type 0
GrabIsUnderWindow widgets Nothing = Unit {0}
GrabIsUnderWindow widgets (Widget id) = IsUnderWindow (rows_of widgets) (key_seen widgets.entries id)
GrabIsUnderWindow widgets (Drag id dx dy) = IsUnderWindow (rows_of widgets) (key_seen widgets.entries id)

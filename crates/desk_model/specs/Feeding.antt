-- An input's step: what it asks for, by the table of inputs, is carried out on the desk. The widget that is hit is the
-- top one at the pointer, whose colour the screen shows there.
use Rattle.std.specs.Prelude.{ℕ, ℤ, pos, List, Option, Some, None}
use Rattle.std.specs.List.{fold}
use Rattle.std.specs.Option.{option_map, option_map_or, option_and_then}
use Rattle.kind_core.specs.declared.kinds.Attr.{Attr}
use Rattle.kind_core.specs.declared.kinds.Attr.TheVariants.{X, Y, Text, Caret, Value}
use Rattle.kind_core.specs.declared.kinds.EventKind.{EventKind}
use Rattle.kind_core.specs.declared.values.Value as value
use Rattle.geom_core.specs.declared.rectangle.Rect.{Rect}
use Rattle.cmd_words.specs.declared.inputs.Input.{Input}
use Rattle.bind_core.specs.Posting.{after_post}
use Rattle.widget_model.specs.Rows.{Row, with_attr, binding_of}
use Rattle.widget_model.specs.Named.{with_named}
use Rattle.widget_model.specs.Keys.{row_of}
use Rattle.widget_model.specs.Pointer.{Grab, no_grab, on_widget, drags}
use Rattle.scene_model.specs.Showing.{place_of, top_of}
use Rattle.desk_model.specs.Desk.{Desk, Ring}
use Rattle.desk_model.specs.Seen.{scene_of}
use Rattle.desk_model.specs.InputEffects.{Hit, Effects}
use Rattle.desk_model.specs.Inputs.{effects_of}
use Rattle.desk_model.specs.LetGo.{let_go}
use Rattle.desk_model.specs.Polling.{with_ring}
use Rattle.desk_model.specs.Windows.{with_top}

-- the top widget at the pointer, with its place
unfoldable pub hit_of : Desk → Option Hit
hit_of desk =
    option_map (λ key. record { key = key; place = place_of (scene_of desk) key }) (top_of (scene_of desk) (pos desk.pointer.x) (pos desk.pointer.y))

-- the widget that is grabbed
abbrev pub grabbed : Grab → Option (ℕ × List ℕ)
grabbed no_grab = None
grabbed (on_widget key) = Some key
grabbed (drags window dx dy) = Some window

-- its place
unfoldable pub held_place : Desk → Option Rect
held_place desk = option_map (place_of (scene_of desk)) (grabbed desk.pointer.grab)

-- the rows with a value of the widget with this key
abbrev pub with_value_at : (ℕ × List ℕ) → Attr → value.Value → List Row → List Row
with_value_at key attr value rows = with_named key.0 key.1 (with_attr attr value) rows

-- the number that a widget's attribute becomes, where it becomes one
abbrev pub with_number : Attr → Option ((ℕ × List ℕ) × ℤ) → List Row → List Row
with_number attr asked rows = option_map_or (λ ask. with_value_at ask.0 attr (value.TheVariants.Number ask.1) rows) asked rows

-- the text that an Entry's becomes
abbrev pub with_text : Option ((ℕ × List ℕ) × List ℕ) → List Row → List Row
with_text asked rows = option_map_or (λ ask. with_value_at ask.0 Text (value.TheVariants.Words ask.1) rows) asked rows

-- where a dragged Window goes
abbrev pub with_moved : Option ((ℕ × List ℕ) × ℤ × ℤ) → List Row → List Row
with_moved asked rows =
    option_map_or (λ ask. with_value_at ask.0 Y (value.TheVariants.Number ask.2) (with_value_at ask.0 X (value.TheVariants.Number ask.1) rows)) asked rows

abbrev pub rows_after : Effects → List Row → List Row
rows_after effects rows =
    with_moved effects.moved (with_number Caret effects.caret (with_text effects.text (with_number Value effects.value rows)))

-- the tag to which the widget's event is bound
abbrev pub tag_of : List Row → ℕ × List ℕ → EventKind → Option (List ℕ)
tag_of rows key event = option_and_then (λ row. binding_of row event) (row_of rows key)

-- the rings with an event posted to the widget's client, under its tag
abbrev pub with_post : List Row → List Ring → (ℕ × List ℕ) × EventKind × ℤ × ℤ → List Ring
with_post rows rings (key, event, a, b) =
    option_map_or (λ tag. with_ring key.0 (λ ring. after_post ring (tag, event, a, b)) rings) (tag_of rows key event) rings

-- What an input asks for is done: the values of rows, the window that goes to the top, the events in their order, and
-- the pointer.
unfoldable pub carried_out : Effects → Desk → Desk
carried_out effects desk =
    record desk {
      rows = rows_after effects desk.rows;
      windows = option_map_or (λ window. with_top window.0 window.1 desk.windows) effects.raise desk.windows;
      pointer = effects.pointer;
      rings = fold (with_post desk.rows) desk.rings effects.posts;
    }

abbrev pub effects_on : Desk → Input → Effects
effects_on desk input = effects_of desk.rows desk.pointer (hit_of desk) (held_place desk) desk.shape.width desk.shape.height input

-- The step of an input. It can't be refused; it ends as every event does.
unfoldable pub step_feed : Desk → Input → Desk
step_feed desk input = let_go (carried_out (effects_on desk input) desk)

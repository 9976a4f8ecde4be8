-- What an input does, for the widgets of all clients, the pointer, the top widget at it with its place, the place of the
-- widget that is grabbed, and a screen of that width and height.
use Rattle.std.specs.Prelude.{ℕ, List, Option}
use Rattle.geom_core.specs.declared.rectangle.Rect.{Rect}
use Rattle.cmd_words.specs.declared.inputs.Input.{Input}
use Rattle.cmd_words.specs.declared.inputs.Input.TheVariants as input
use Rattle.widget_model.specs.Rows.{Row}
use Rattle.widget_model.specs.Pointer.{Pointer}
use Rattle.desk_model.specs.InputEffects.{Hit, Effects}
use Rattle.desk_model.specs.InputTable.{on_motion, on_press, on_release, on_key}

unfoldable pub effects_of : List Row → Pointer → Option Hit → Option Rect → ℕ → ℕ → Input → Effects
effects_of rows pointer hit held width height (input.Motion x y) = on_motion rows pointer held width height x y
effects_of rows pointer hit held width height input.Press = on_press rows pointer hit
effects_of rows pointer hit held width height input.Release = on_release rows pointer hit held
effects_of rows pointer hit held width height (input.Key byte) = on_key rows pointer byte

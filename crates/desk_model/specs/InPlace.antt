-- What stays in place between two desks: the widgets are the same and each hangs in the same one, the same windows are
-- open in the same order, and each widget has the same place.
use Rattle.std.specs.Prelude.{ℕ, ◌≡◌, Bool, true, false, List, map, Option}
use Rattle.std.specs.Option.{option_map, option_and_then}
use Rattle.geom_core.specs.declared.rectangle.Rect.{Rect}
use Rattle.cmd_words.specs.declared.commands.Command.{Command}
use Rattle.cmd_words.specs.declared.commands.Command.TheVariants.{New, Place, Lift, OpenWindow, CloseWindow, TopWindow, DropWidget}
use Rattle.widget_model.specs.Rows.{Row}
use Rattle.widget_model.specs.Keys.{key_of, row_of}
use Rattle.scene_model.specs.DuePlaces.{due_place}
use Rattle.desk_model.specs.Desk.{Desk}
use Rattle.desk_model.specs.Commands.{step}
use Rattle.desk_model.specs.InputEffects.{Effects}
use Rattle.desk_model.specs.Feeding.{rows_after}

-- the widget's key, and the name of the widget that it hangs in
abbrev pub hung_of : Row → (ℕ × List ℕ) × Option (List ℕ)
hung_of row = (key_of row, option_map (λ attached. attached.0) row.attached)

-- the place that is due under the key, none where no widget has it
abbrev pub due_of : List Row → ℕ × List ℕ → Option Rect
due_of rows key = option_and_then (due_place rows) (row_of rows key)

pub record StaysInPlace (old new : Desk) : Type 0 where
  pub hung : map hung_of new.rows ≡ map hung_of old.rows
  pub windows : new.windows ≡ old.windows
  pub places : (key : ℕ × List ℕ) → due_of new.rows key ≡ due_of old.rows key

-- Whether the command leaves all widgets where they hang and all windows open as they are, whatever it does.
abbrev pub leaves_hung : Command → Bool
leaves_hung (New name kind) = false
leaves_hung (Place parent child options) = false
leaves_hung (Lift parent child) = false
leaves_hung (OpenWindow name) = false
leaves_hung (CloseWindow name) = false
leaves_hung (TopWindow name) = false
leaves_hung (DropWidget name) = false
leaves_hung _ = true

pub record HangsAlike (old new : Desk) : Type 0 where
  pub hung : map hung_of new.rows ≡ map hung_of old.rows
  pub windows : new.windows ≡ old.windows

abbrev pub CommandsLeaveHung : Type 0
CommandsLeaveHung =
    (desk : Desk) (client : ℕ) (command : Command) (payload : List ℕ) (short : Bool) → leaves_hung command ≡ true → HangsAlike desk (step desk client command payload short).1

-- The values that an input gives leave all widgets where they hang.
abbrev pub InputsLeaveHung : Type 0
InputsLeaveHung = (effects : Effects) (rows : List Row) → map hung_of (rows_after effects rows) ≡ map hung_of rows

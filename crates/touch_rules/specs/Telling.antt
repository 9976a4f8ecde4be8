-- Which looks a command or an input touches, told from what was kept before it: the looks of the widgets that it may change
-- and of those linked to them, and of a command the number of the VScreen that it shows anew.
use Rattle.std.specs.Prelude.{ℕ, ◌≡◌, Bool, ◌&&◌, ◌||◌, nat_eq, List, [], ◌∷◌, ◌++◌, Option, Some, None, if◌then◌else◌}
use Rattle.std.specs.List.{list_any}
use Rattle.std.specs.Option.{option_map, option_and_then}
use Rattle.look_core.specs.Seen.{Seen}
use Rattle.cmd_words.specs.declared.commands.Command.{Command}
use Rattle.cmd_words.specs.declared.inputs.Input.{Input}
use Rattle.widget_model.specs.Nodes.{id_named}
use Rattle.widget_model.specs.Widgets.{Widgets, nodes, rows_of}
use Rattle.tree_core.specs.declared.pointer.Grab.{Grab}
use Rattle.tree_core.specs.declared.pointer.Grab.TheVariants.{Nothing, Widget, Drag}
use Rattle.tree_core.specs.declared.pointer.Pointer.{Pointer}
use Rattle.tree_core.specs.Holds.{pointer_seen}
use Rattle.scene_model.specs.Scene.{Scene}
use Rattle.desk_model.specs.Desk.{Desk}
use Rattle.desk_model.specs.Seen.{scene_of}
use Rattle.desk_model.specs.Commands.{step}
use Rattle.desk_model.specs.Feeding.{effects_on, step_feed}
use Rattle.desk_model.specs.Scope.{named_in, effects_scope}
use Rattle.look_data.specs.Kept.{is_shown_at}
use Rattle.look_data.specs.Watched.{AreWatched, has_changed}
use Rattle.touch_rules.specs.Touched.{Numbered, TellsLooks}
use Rattle.touch_rules.specs.Films.{shown_anew, unless_refused}
use Rattle.touch_rules.specs.Laws.{IsNumbered, KeepsKeys, WatchesScope, is_number}

-- the number of the VScreen that the client's command shows anew
abbrev pub number_anew : Widgets → ℕ → Command → List ℕ → Option ℕ
number_anew widgets client command payload = option_and_then (id_named (nodes widgets.entries) client) (shown_anew (rows_of widgets) client command payload)

-- the number, where the widget is shown
abbrev pub where_shown : Widgets → List ℕ → Option ℕ → Option ℕ
where_shown widgets windows number = option_and_then (λ id. if is_shown_at widgets windows id then Some id else None) number

-- Whether the number is told: its kept look differs from what would be kept of it now, or it is that of the VScreen that was
-- shown anew, and the VScreen is shown now.
abbrev pub is_told : List (ℕ × Seen) → Option ℕ → Widgets → List ℕ → Scene → ℕ → Bool
is_told looks anew widgets windows scene id =
    has_changed looks widgets windows scene id || (is_number anew id && is_shown_at widgets windows id)

-- the number as a list of one, or none
abbrev pub numbers_in : Option ℕ → List ℕ
numbers_in None = []
numbers_in (Some id) = id ∷ []

-- the number of the widget that is grabbed
abbrev pub grabbed_number : Grab → Option ℕ
grabbed_number Nothing = None
grabbed_number (Widget id) = Some id.key
grabbed_number (Drag id dx dy) = Some id.key

-- the numbers of what the pointer holds
abbrev pub held_numbers : Pointer → List ℕ
held_numbers pointer = numbers_in (grabbed_number pointer.grab) ++ numbers_in (option_map (λ id. id.key) pointer.focus)

-- the number of the widget that the client's command may change
abbrev pub number_named : Widgets → ℕ → Command → Option ℕ
number_named widgets client command = option_and_then (id_named (nodes widgets.entries) client) (named_in command)

-- the numbers that are watched around the client's command: that of the widget that it may change, and of what the pointer
-- holds
abbrev pub command_numbers : Widgets → ℕ → Command → Pointer → List ℕ
command_numbers widgets client command pointer = numbers_in (number_named widgets client command) ++ held_numbers pointer

-- The scene is that of the desk, and the pointer's numbers are those of what it holds.
pub record NumbersDesk (desk : Desk) (pointer : Pointer) (numbered : Numbered) : Type 0 where
  pub scene : numbered.scene ≡ scene_of desk
  pub held : pointer_seen numbered.widgets.entries pointer ≡ desk.pointer

-- What is kept before a command, and told after it, is exactly what it touched.
abbrev pub StepsTellLooks : Type 0
StepsTellLooks =
    (desk : Desk) (client : ℕ) (command : Command) (payload : List ℕ) (short : Bool) (before after : Numbered) (pointer : Pointer) (looks : List (ℕ × Seen)) (touched : List ℕ)
    → IsNumbered before → IsNumbered after → KeepsKeys before after → NumbersDesk desk pointer before
    → AreWatched (command_numbers before.widgets client command pointer) (number_named before.widgets client command) before.widgets before.windows before.scene looks
    → after.scene ≡ scene_of (step desk client command payload short).1
    → ((id : ℕ) → list_any (nat_eq id) touched
    ≡ is_told looks (unless_refused (step desk client command payload short).0 (where_shown before.widgets before.windows (number_anew before.widgets client command payload))) after.widgets after.windows after.scene id)
    → TellsLooks before after touched

-- The same of an input, which shows no film anew, with all watched that may change.
abbrev pub InputsTellLooks : Type 0
InputsTellLooks =
    (desk : Desk) (input : Input) (before after : Numbered) (named : List ℕ) (variable : Option ℕ) (looks : List (ℕ × Seen)) (touched : List ℕ)
    → IsNumbered before → IsNumbered after → KeepsKeys before after → before.scene ≡ scene_of desk
    → WatchesScope (effects_scope desk.pointer (effects_on desk input)) named variable before
    → AreWatched named variable before.widgets before.windows before.scene looks
    → after.scene ≡ scene_of (step_feed desk input)
    → ((id : ℕ) → list_any (nat_eq id) touched ≡ has_changed looks after.widgets after.windows after.scene id)
    → TellsLooks before after touched

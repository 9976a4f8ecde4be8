-- What an event may change: each command and each input keeps to a few widgets, which its words or the pointer name.
use Rattle.std.specs.Prelude.{ℕ, ◌≡◌, Bool, false, List, [], ◌∷◌, ◌++◌, Option, Some, None}
use Rattle.std.specs.List.{list_any}
use Rattle.std.specs.Option.{option_map, option_map_or}
use Rattle.kind_core.specs.declared.kinds.Attr.TheVariants.{Value}
use Rattle.cmd_words.specs.declared.commands.Command.{Command}
use Rattle.cmd_words.specs.declared.commands.Command.TheVariants.{New, Set, Get, Place, Lift, ColumnConfig, RowConfig, Link, Unlink, Bind, Unbind, OpenWindow, CloseWindow, TopWindow, Mode, Admit, Leave, SendFrame, DropWidget, Poll}
use Rattle.cmd_words.specs.declared.inputs.Input.{Input}
use Rattle.widget_model.specs.Keys.{same_key, row_of}
use Rattle.widget_model.specs.Pointer.{Pointer}
use Rattle.scene_model.specs.Scene.{Scene}
use Rattle.scene_model.specs.Values.{number_of}
use Rattle.scene_model.specs.LookOf.{grabs}
use Rattle.desk_model.specs.Desk.{Desk}
use Rattle.desk_model.specs.Seen.{scene_of}
use Rattle.desk_model.specs.Commands.{step}
use Rattle.desk_model.specs.InputEffects.{Effects}
use Rattle.desk_model.specs.Feeding.{grabbed, effects_on, step_feed}

pub record Scope : Type 0 where
  -- the widgets whose rows may change, come or go
  pub rows : List (ℕ × List ℕ)
  -- the widgets whose own value may change, come or go
  pub values : List (ℕ × List ℕ)
  -- the widgets that the pointer may grab, give the focus, or let go of
  pub held : List (ℕ × List ℕ)

abbrev pub is_among : List (ℕ × List ℕ) → ℕ × List ℕ → Bool
is_among keys key = list_any (same_key key) keys

-- All that is out of the scope is as it was.
pub record StaysBut (scope : Scope) (old new : Scene) : Type 0 where
  pub rows : (key : ℕ × List ℕ) → is_among scope.rows key ≡ false → row_of new.rows key ≡ row_of old.rows key
  pub values : (key : ℕ × List ℕ) → is_among scope.values key ≡ false → option_map (number_of Value) (row_of new.rows key) ≡ option_map (number_of Value) (row_of old.rows key)
  pub grab : (key : ℕ × List ℕ) → is_among scope.held key ≡ false → grabs new.pointer.grab key ≡ grabs old.pointer.grab key
  pub focus : (key : ℕ × List ℕ) → is_among scope.held key ≡ false → option_map_or (same_key key) new.pointer.focus false ≡ option_map_or (same_key key) old.pointer.focus false

-- the key as a list of one, or none
abbrev pub keys_in : Option (ℕ × List ℕ) → List (ℕ × List ℕ)
keys_in None = []
keys_in (Some key) = key ∷ []

-- what the pointer holds: the widget that it has grabbed, and the one with the focus
abbrev pub held_keys : Pointer → List (ℕ × List ℕ)
held_keys pointer = keys_in (grabbed pointer.grab) ++ keys_in pointer.focus

-- the name of the one widget that a command may change; `place` and `lift` change the child
abbrev pub named_in : Command → Option (List ℕ)
named_in (New name kind) = Some name
named_in (Set name options) = Some name
named_in (Get name attr) = None
named_in (Place parent child options) = Some child
named_in (Lift parent child) = Some child
named_in (ColumnConfig name index options) = Some name
named_in (RowConfig name index options) = Some name
named_in (Link name variable) = Some name
named_in (Unlink name) = Some name
named_in (Bind name event tag) = Some name
named_in (Unbind name event) = Some name
named_in (OpenWindow name) = None
named_in (CloseWindow name) = None
named_in (TopWindow name) = None
named_in (Mode name w h) = Some name
named_in (Admit name period) = Some name
named_in (Leave name) = Some name
named_in (SendFrame name size) = Some name
named_in (DropWidget name) = Some name
named_in Poll = None

-- A command may change the widget that it names, and the pointer may let go of what it holds.
abbrev pub command_scope : ℕ → Command → Pointer → Scope
command_scope client command pointer =
    let named = keys_in (option_map (λ name. (client, name)) (named_in command)) in
    record { rows = named; values = named; held = held_keys pointer }

-- the widgets to which an input gives a value
abbrev pub given_keys : Effects → List (ℕ × List ℕ)
given_keys effects =
    keys_in (option_map (λ set. set.0) effects.value)
    ++ keys_in (option_map (λ set. set.0) effects.text)
    ++ keys_in (option_map (λ set. set.0) effects.caret)
    ++ keys_in (option_map (λ set. set.0) effects.moved)

-- An input may change the widgets to which it gives values, and what the pointer holds.
abbrev pub effects_scope : Pointer → Effects → Scope
effects_scope pointer effects =
    record {
      rows = given_keys effects;
      values = keys_in (option_map (λ set. set.0) effects.value);
      held = held_keys pointer ++ held_keys effects.pointer;
    }

abbrev pub CommandsKeepToTheirScope : Type 0
CommandsKeepToTheirScope =
    (desk : Desk) (client : ℕ) (command : Command) (payload : List ℕ) (short : Bool)
    → StaysBut (command_scope client command desk.pointer) (scene_of desk) (scene_of (step desk client command payload short).1)

abbrev pub InputsKeepToTheirScope : Type 0
InputsKeepToTheirScope =
    (desk : Desk) (input : Input) → StaysBut (effects_scope desk.pointer (effects_on desk input)) (scene_of desk) (scene_of (step_feed desk input))

-- Inner words of the proofs: what an input leaves of the parts of a desk, and whose kept places are due.
use Rattle.std.specs.Prelude.{ℕ, ◌≡◌, ◌||◌, Bool, false, nat_eq, List, Option, Some}
use Rattle.std.specs.Option.{option_map, option_map_or}
use Rattle.kind_core.specs.declared.shapes.Shape.{Shape}
use Rattle.admit_core.specs.Roster.{RosterState}
use Rattle.widget_model.specs.Rows.{Row}
use Rattle.widget_model.specs.Widgets.{Widgets, nodes, rows_of, row_at, place_at}
use Rattle.widget_model.specs.Forest.{IsWidgets}
use Rattle.scene_model.specs.DuePlaces.{due_place}
use Rattle.scene_core.specs.Laid.{with_places}
use Rattle.tree_core.specs.declared.id.Id.{Id}
use Rattle.tree_core.specs.declared.pointer.Pointer.{Pointer}
use Rattle.input_core.specs.declared.effects.Effects.{Effects}
use Rattle.input_core.specs.Seen.{key_seen, effects_seen}
use Rattle.desk_model.specs.Desk.{Ring}
use Rattle.desk_model.specs.InputEffects as model
use Rattle.desk_model.specs.LetGo.{let_go}
use Rattle.desk_model.specs.Feeding.{rows_after, carried_out}
use Rattle.desk_layout.specs.Placed.{HaveDuePlaces}
use Rattle.desk_commands.specs.Parts.{desk_of, stage_of, windows_at, AreParts}
use Rattle.desk_commands.specs.Pointer.{HoldsLive}
use Rattle.desk_moves.specs.Stays.{MoveNothing, effects_move}
use Rattle.desk_core.specs.declared.carried.Carried.{Carried}

-- whether the numbered widget, where there is one, is the client's
abbrev pub is_named : List (ℕ × Row) → Option Id → ℕ → Bool
is_named entries named client = option_map_or (λ id. nat_eq client (key_seen entries id).0) named false

-- whether the effects give a value to one of the client's widgets
abbrev pub is_asked : List (ℕ × Row) → Effects → ℕ → Bool
is_asked entries effects client =
    is_named entries (option_map (λ set. set.0) effects.value) client
    || (is_named entries (option_map (λ set. set.0) effects.text) client
    || (is_named entries (option_map (λ set. set.0) effects.caret) client
    || is_named entries (option_map (λ set. set.0) effects.moved) client))

-- The kept places are the ones due, but for the widgets of some clients.
pub record HavePlacesBut (some : ℕ → Bool) (widgets : Widgets) : Type 0 where
  pub each : (id : ℕ) (row : Row) → row_at widgets.entries id ≡ Some row → some row.client ≡ false → place_at widgets id ≡ due_place (rows_of widgets) row

-- Only kept places have changed.
pub record ChangesPlaces (old new : Widgets) : Type 0 where
  pub same : new ≡ with_places new.places old
  pub valid : IsWidgets new

-- Where the values are said to move nothing, each widget is due the place then that it was due before.
abbrev pub StillUnlessMoving : List Row → model.Effects → Type 0
StillUnlessMoving rows effects = effects_move rows effects ≡ false → MoveNothing rows (rows_after effects rows)

-- What the effects ask for is carried out on the widgets, the open windows, the kept events and the pointer, which lets
-- go then; the parts keep what they keep together, and the places are the ones due. Where it is told that
-- nothing changed, the rows and the open windows are as they were; where it is told that nothing moved, the open windows
-- are so, and the values move nothing.
pub record IsCarried (effects : Effects) (w w' : Widgets) (keys keys' : List ℕ) (rings rings' : List Ring) (pointer : Pointer) (told : Carried) : Type 0 where
  pub rows : rows_of w' ≡ rows_after (effects_seen w.entries effects) (rows_of w)
  pub same_nodes : nodes w'.entries ≡ nodes w.entries
  pub clients : w'.clients ≡ w.clients
  pub parts : AreParts w'.clients w' keys'
  pub placed : HaveDuePlaces w'
  pub held : HoldsLive w'.entries pointer
  pub desk : (shape : Shape) (roster : RosterState) (old : Pointer)
      → desk_of (stage_of shape roster rings' w' pointer) w' keys' ≡ let_go (carried_out (effects_seen w.entries effects) (desk_of (stage_of shape roster rings w old) w keys))
  pub unchanged : told.changed ≡ false → (rows_of w' ≡ rows_of w) × (windows_at (nodes w'.entries) keys' ≡ windows_at (nodes w.entries) keys)
  pub unmoved : told.moved ≡ false → (effects_move (rows_of w) (effects_seen w.entries effects) ≡ false) × (windows_at (nodes w'.entries) keys' ≡ windows_at (nodes w.entries) keys)

-- The desk that its parts make up, and what they keep together.
use Rattle.std.specs.Prelude.{ℕ, ◌≡◌, ◌-◌, Bool, true, false, not, nat_eq, is_some, List, [], map}
use Rattle.std.specs.List.{list_all}
use Rattle.std.specs.Option.{option_map_or}
use Rattle.kind_core.specs.declared.shapes.Shape.{Shape}
use Rattle.stack_core.specs.Stack.{IsStack}
use Rattle.admit_core.specs.Roster.{RosterState, IsRoster}
use Rattle.widget_model.specs.Nodes.{Node, node_at}
use Rattle.widget_model.specs.Rows.{Row}
use Rattle.widget_model.specs.Widgets.{Widgets, nodes, rows_of, row_at}
use Rattle.widget_model.specs.Trees.{is_admitted}
use Rattle.widget_model.specs.Forest.{IsWidgets}
use Rattle.widget_model.specs.Kinds.{is_window_kind}
use Rattle.widget_model.specs.Pointer as model
use Rattle.tree_core.specs.declared.pointer.Pointer.{Pointer}
use Rattle.tree_core.specs.Holds.{pointer_seen}
use Rattle.desk_model.specs.Desk.{Desk, Admission, Ring}

-- What stands beside the widgets and the open windows: the desk's numbers, the pointer, which names widgets by their keys,
-- the roster, which does so too, and the events kept for the clients. Only `admit` and `leave` touch the roster, only
-- `poll` the events, and no command the others.
pub record Stage : Type 0 where
  pub shape : Shape
  pub pointer : model.Pointer
  pub roster : List Admission
  pub rings : List Ring

-- the client and the name of the numbered node
abbrev pub title_at : List (ℕ × Node) → ℕ → ℕ × List ℕ
title_at entries key = option_map_or (λ node. (node.client, node.name)) (node_at entries key) (0, [])

-- the windows with these numbers, each by client and name
abbrev pub windows_at : List (ℕ × Node) → List ℕ → List (ℕ × List ℕ)
windows_at entries keys = map (title_at entries) keys

-- the admission of the VScreen with this number, with its share
abbrev pub admission_at : List (ℕ × Node) → ℕ × ℕ → Admission
admission_at entries entry = record { client = (title_at entries entry.0).0; name = (title_at entries entry.0).1; share = entry.1 }

-- the admissions of the VScreens with these numbers, each by client and name, in their order
abbrev pub admissions_at : List (ℕ × Node) → List (ℕ × ℕ) → List Admission
admissions_at entries roster = map (admission_at entries) roster

-- the same of a pointer and a roster that name these widgets by their numbers
abbrev pub stage_of : Shape → RosterState → List Ring → Widgets → Pointer → Stage
stage_of shape roster rings widgets pointer =
    record {
      shape = shape;
      pointer = pointer_seen widgets.entries pointer;
      roster = admissions_at (nodes widgets.entries) roster.entries;
      rings = rings;
    }

-- the stage with another roster
abbrev pub with_roster : List Admission → Stage → Stage
with_roster roster stage = record stage { roster = roster }

-- the desk of these widgets, with the windows of these numbers open
abbrev pub desk_of : Stage → Widgets → List ℕ → Desk
desk_of stage widgets keys =
    record {
      shape = stage.shape;
      clients = widgets.clients;
      rows = rows_of widgets;
      windows = windows_at (nodes widgets.entries) keys;
      pointer = stage.pointer;
      roster = stage.roster;
      rings = stage.rings;
    }

-- the number names a Window
abbrev pub names_window : List (ℕ × Node) → ℕ → Bool
names_window entries key = option_map_or (λ node. is_window_kind node.kind) (node_at entries key) false

-- the number names a widget of another client
abbrev pub is_others : List (ℕ × Node) → ℕ → ℕ → Bool
is_others entries client key = not (nat_eq client (title_at entries key).0)

-- the same of an admission's number
abbrev pub is_others_entry : List (ℕ × Node) → ℕ → ℕ × ℕ → Bool
is_others_entry entries client entry = is_others entries client entry.0

-- what the parts of a desk keep together
pub record AreParts (joined : List ℕ) (widgets : Widgets) (keys : List ℕ) : Type 0 where
  pub clients : joined ≡ widgets.clients
  pub tree : IsWidgets widgets
  pub stack : IsStack keys
  pub windows : list_all (names_window (nodes widgets.entries)) keys ≡ true

-- the number names an admitted VScreen
abbrev pub names_admitted : List (ℕ × Row) → ℕ × ℕ → Bool
names_admitted entries entry = option_map_or is_admitted (row_at entries entry.0) false

-- What a roster of these widgets keeps: no number is there twice, and each is that of an admitted VScreen.
pub record ListsAdmitted (entries : List (ℕ × Row)) (roster : RosterState) : Type 0 where
  pub valid : IsRoster roster
  pub admitted : list_all (names_admitted entries) roster.entries ≡ true

-- the number is a widget's
abbrev pub is_live_entry : List (ℕ × Row) → ℕ × ℕ → Bool
is_live_entry entries entry = is_some (row_at entries entry.0)

-- what is known of a roster by numbers alone: none is there twice, and each is a widget's
pub record AreListed (entries : List (ℕ × Row)) (roster : RosterState) : Type 0 where
  pub valid : IsRoster roster
  pub live : list_all (is_live_entry entries) roster.entries ≡ true

-- The roster's limit is what the spare leaves of the budget.
abbrev pub HasLimitOf : Shape → RosterState → Type 0
HasLimitOf shape roster = roster.limit ≡ shape.budget - shape.spare

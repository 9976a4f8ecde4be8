-- What a command did.
use Rattle.std.specs.Prelude.{ℕ, ◌≡◌, ◌↔◌, IsTrue, Bool, true, false, is_some, List, Some}
use Rattle.cmd_words.specs.declared.commands.Command.{Command}
use Rattle.cmd_words.specs.declared.commands.Command.TheVariants.{Poll}
use Rattle.cmd_words.specs.declared.replies.Reply.{Reply}
use Rattle.widget_model.specs.Rows.{Row}
use Rattle.widget_model.specs.Nodes.{node_at}
use Rattle.widget_model.specs.Widgets.{key_at, Widgets, nodes, rows_of, row_at, place_at}
use Rattle.desk_model.specs.Desk.{Desk, Admission}
use Rattle.desk_model.specs.LetGo.{is_in_window}
use Rattle.desk_layout.specs.Numbers.{KeepsNumbers}
use Rattle.admit_core.specs.Roster.{RosterState}
use Rattle.desk_commands.specs.Parts.{Stage, windows_at, admissions_at, with_roster, desk_of, names_admitted, AreParts, AreListed, HasLimitOf}

abbrev pub is_poll : Command → Bool
is_poll Poll = true
is_poll _ = false

-- the desk with other rows
abbrev pub with_rows : List Row → Desk → Desk
with_rows rows desk = record desk { rows = rows }

-- On any desk with the old rows the step gives that reply, and a desk that has the new rows and is the same for the
-- rest. The clients and the kept places stay, and so does the node of each number that was live.
pub record Did (step : Desk → Reply × Desk) (old new : Widgets) (reply : Reply) : Type 0 where
  pub answer : (desk : Desk) → (reply, with_rows (rows_of new) desk) ≡ step (with_rows (rows_of old) desk)
  pub clients : new.clients ≡ old.clients
  pub kept : (id : ℕ) → is_some (node_at (nodes old.entries) id) ≡ true → node_at (nodes new.entries) id ≡ node_at (nodes old.entries) id
  pub places : new.places ≡ old.places

-- whether it is told rightly that the rows changed
abbrev pub TellsRows : Widgets → Widgets → Bool → Type 0
TellsRows old new changed = IsTrue changed ↔ ¬ (rows_of new ≡ rows_of old)

-- the same of the rows and the open windows
abbrev pub TellsAll : Widgets → Widgets → List ℕ → List ℕ → Bool → Type 0
TellsAll old new keys keys' changed =
    IsTrue changed ↔ ¬ ((rows_of new ≡ rows_of old) × (windows_at (nodes new.entries) keys' ≡ windows_at (nodes old.entries) keys))

-- On the desk of the old widgets and open windows the step gives that reply, and the desk of the new ones, which
-- keep what holds of them. A number that named an open window, a widget under one or an admitted VScreen names it still,
-- numbers stay with their widgets, and each live number has the kept place that it had.
pub record DidAll (step : Desk → Reply × Desk) (old new : Widgets) (keys keys' : List ℕ) (reply : Reply) : Type 0 where
  pub answer : (stage : Stage) → (reply, desk_of stage new keys') ≡ step (desk_of stage old keys)
  pub clients : new.clients ≡ old.clients
  pub kept : AreParts new.clients new keys'
  pub names : (stage : Stage) (id : ℕ) (key : ℕ × List ℕ) → key_at old.entries id ≡ Some key → is_in_window (desk_of stage old keys) key ≡ true → key_at new.entries id ≡ Some key
  pub admitted : (entry : ℕ × ℕ) → names_admitted old.entries entry ≡ true → node_at (nodes new.entries) entry.0 ≡ node_at (nodes old.entries) entry.0
  pub numbers : KeepsNumbers old.entries new.entries
  pub places : (id : ℕ) (row : Row) → row_at new.entries id ≡ Some row → place_at new id ≡ place_at old id

-- the desk with other rows and another roster
abbrev pub with_admissions : List Row → List Admission → Desk → Desk
with_admissions rows roster desk = record desk { rows = rows; roster = roster }

-- On any desk with the old rows and admissions, whose limit is the roster's, the step gives that reply, and a desk that
-- has the new ones and is the same for the rest. The clients, the nodes of live numbers and the kept places stay.
pub record DidListed (step : Desk → Reply × Desk) (old new : Widgets) (roster roster' : RosterState) (reply : Reply) : Type 0 where
  pub answer : (desk : Desk) → HasLimitOf desk.shape roster
      → (reply, with_admissions (rows_of new) (admissions_at (nodes new.entries) roster'.entries) desk) ≡ step (with_admissions (rows_of old) (admissions_at (nodes old.entries) roster.entries) desk)
  pub clients : new.clients ≡ old.clients
  pub kept : (id : ℕ) → is_some (node_at (nodes old.entries) id) ≡ true → node_at (nodes new.entries) id ≡ node_at (nodes old.entries) id
  pub limit : roster'.limit ≡ roster.limit
  pub listed : AreListed new.entries roster'
  pub places : new.places ≡ old.places

-- The same of all parts of the desk, of which the roster may change too; its limit is that of the desk and stays.
pub record DidWhole (step : Desk → Reply × Desk) (old new : Widgets) (keys keys' : List ℕ) (roster roster' : RosterState) (reply : Reply) : Type 0 where
  pub answer : (stage : Stage) → HasLimitOf stage.shape roster
      → (reply, desk_of (with_roster (admissions_at (nodes new.entries) roster'.entries) stage) new keys') ≡ step (desk_of (with_roster (admissions_at (nodes old.entries) roster.entries) stage) old keys)
  pub clients : new.clients ≡ old.clients
  pub kept : AreParts new.clients new keys'
  pub limit : roster'.limit ≡ roster.limit
  pub listed : AreListed new.entries roster'
  pub names : (stage : Stage) (id : ℕ) (key : ℕ × List ℕ) → key_at old.entries id ≡ Some key → is_in_window (desk_of stage old keys) key ≡ true → key_at new.entries id ≡ Some key
  pub numbers : KeepsNumbers old.entries new.entries
  pub places : (id : ℕ) (row : Row) → row_at new.entries id ≡ Some row → place_at new id ≡ place_at old id

-- What a client does touches its own part of the desk alone, and what it is answered depends on that part alone; only
-- `admit` depends on how much the others' shares are together, too.
use Rattle.std.specs.Prelude.{ℕ, ◌≡◌, ◌⊎◌, Bool, true, false, not, nat_eq, List, Option, Some, None, IfSome}
use Rattle.std.specs.List.{filter}
use Rattle.cmd_words.specs.declared.commands.Command.{Command}
use Rattle.cmd_words.specs.declared.commands.Command.TheVariants.{Admit}
use Rattle.widget_model.specs.Pointer.{Pointer, Grab, no_grab, on_widget, drags}
use Rattle.widget_model.specs.Named.{own_rows, rows_of_others}
use Rattle.desk_model.specs.Desk.{Desk, Admission, is_connected}
use Rattle.desk_model.specs.Clients.{free_client, step_connect, step_hello, step_bye}
use Rattle.desk_model.specs.Polling.{ring_of}
use Rattle.desk_model.specs.Screens.{shares_of}
use Rattle.desk_model.specs.Commands.{step}
use Rattle.desk_model.specs.DeskFacts.{IsDesk}

abbrev pub own_windows : ℕ → List (ℕ × List ℕ) → List (ℕ × List ℕ)
own_windows client windows = filter (λ window. nat_eq client window.0) windows

-- the others' windows, in their order
abbrev pub windows_of_others : ℕ → List (ℕ × List ℕ) → List (ℕ × List ℕ)
windows_of_others client windows = filter (λ window. not (nat_eq client window.0)) windows

-- the admissions of all other clients' VScreens
abbrev pub admissions_of_others : ℕ → List Admission → List Admission
admissions_of_others client roster = filter (λ admission. not (nat_eq client admission.client)) roster

-- whether the grab, or the focus, is on a widget of the client
abbrev pub IsGrabOf : ℕ → Grab → Type 0
IsGrabOf client no_grab = ⊥
IsGrabOf client (on_widget key) = key.0 ≡ client
IsGrabOf client (drags window dx dy) = window.0 ≡ client

abbrev pub IsFocusOf : ℕ → Option (ℕ × List ℕ) → Type 0
IsFocusOf client None = ⊥
IsFocusOf client (Some widget) = widget.0 ≡ client

-- The pointer stays where it is, up or down, and so do its grab and focus; only where they are on the client's own
-- widgets they may become none.
pub record LeavesPointer (client : ℕ) (old new : Pointer) : Type 0 where
  pub x : new.x ≡ old.x
  pub y : new.y ≡ old.y
  pub down : new.down ≡ old.down
  pub grab : (new.grab ≡ old.grab) ⊎ (IsGrabOf client old.grab × (new.grab ≡ no_grab))
  pub focus : (new.focus ≡ old.focus) ⊎ (IsFocusOf client old.focus × (new.focus ≡ None))

-- What is not the client's is as it was: who else is connected, the others' rows, the order of their windows, their
-- admissions and events, and the pointer but for its hold on the client's own widgets.
pub record LeavesOthers (client : ℕ) (old new : Desk) : Type 0 where
  pub shape : new.shape ≡ old.shape
  pub clients : (other : ℕ) → nat_eq client other ≡ false → is_connected new other ≡ is_connected old other
  pub rows : rows_of_others client new.rows ≡ rows_of_others client old.rows
  pub windows : windows_of_others client new.windows ≡ windows_of_others client old.windows
  pub pointer : LeavesPointer client old.pointer new.pointer
  pub roster : admissions_of_others client new.roster ≡ admissions_of_others client old.roster
  pub rings : filter (λ ring. not (nat_eq client ring.client)) new.rings ≡ filter (λ ring. not (nat_eq client ring.client)) old.rings

-- A client's command, its coming and its going leave the others' parts of a valid desk as they were.
abbrev pub CommandsLeaveOthers : Type 0
CommandsLeaveOthers =
    (desk : Desk) (client : ℕ) (command : Command) (payload : List ℕ) (short : Bool) → IsDesk desk → LeavesOthers client desk (step desk client command payload short).1

abbrev pub ConnectsLeaveOthers : Type 0
ConnectsLeaveOthers = (desk : Desk) (client : ℕ) (short : Bool) → IsDesk desk → LeavesOthers client desk (step_connect desk client short).1

-- The client that comes by `hello` is the least free one, where there is one.
abbrev pub HellosLeaveOthers : Type 0
HellosLeaveOthers = (desk : Desk) (short : Bool) → IsDesk desk → IfSome (free_client desk.clients) (λ client. LeavesOthers client desk (step_hello desk short).1)

abbrev pub ByesLeaveOthers : Type 0
ByesLeaveOthers = (desk : Desk) (client : ℕ) → IsDesk desk → LeavesOthers client desk (step_bye desk client).1

-- Two desks of one shape agree on the client's part: whether it is connected, its rows with their films, its open windows
-- and its kept events.
pub record AgreeOn (client : ℕ) (one two : Desk) : Type 0 where
  pub shape : one.shape ≡ two.shape
  pub connected : is_connected one client ≡ is_connected two client
  pub rows : own_rows client one.rows ≡ own_rows client two.rows
  pub windows : own_windows client one.windows ≡ own_windows client two.windows
  pub events : ring_of one.rings client ≡ ring_of two.rings client

-- They agree on how much the shares of all other clients' VScreens are together.
abbrev pub AgreeOnShares : ℕ → Desk → Desk → Type 0
AgreeOnShares client one two = shares_of (admissions_of_others client one.roster) ≡ shares_of (admissions_of_others client two.roster)

-- whether the command is `admit`
abbrev pub is_admit : Command → Bool
is_admit (Admit name period) = true
is_admit _ = false

-- Desks that agree on the client's part, of which all holds that holds of a desk, answer each command of the client alike,
-- under the same want of memory; `admit` where they agree on the others' shares too.
abbrev pub AnswersDependOnOwnPart : Type 0
AnswersDependOnOwnPart =
    (one two : Desk) (client : ℕ) (command : Command) (payload : List ℕ) (short : Bool) → IsDesk one → IsDesk two → AgreeOn client one two
    → (is_admit command ≡ true → AgreeOnShares client one two)
    → (step one client command payload short).0 ≡ (step two client command payload short).0

abbrev pub ConnectsDependOnOwnPart : Type 0
ConnectsDependOnOwnPart =
    (one two : Desk) (client : ℕ) (short : Bool) → AgreeOn client one two → (step_connect one client short).0 ≡ (step_connect two client short).0

abbrev pub ByesDependOnOwnPart : Type 0
ByesDependOnOwnPart = (one two : Desk) (client : ℕ) → AgreeOn client one two → (step_bye one client).0 ≡ (step_bye two client).0

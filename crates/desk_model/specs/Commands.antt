-- The step of a client's command: its reply, and the desk after it. A client that isn't connected is refused.
-- Else each command has its own row: its refusals from left to right, want of memory last, or its effect.
use Rattle.std.specs.Prelude.{ℕ, ◌≡◌, ◌≤◌, Bool, not, List, length, Some, None}
use Rattle.cmd_words.specs.declared.commands.Command.{Command}
use Rattle.cmd_words.specs.declared.commands.Command.TheVariants.{New, Set, Get, Place, Lift, ColumnConfig, RowConfig, Link, Unlink, Bind, Unbind, OpenWindow, CloseWindow, TopWindow, Mode, Admit, Leave, SendFrame, DropWidget, Poll}
use Rattle.cmd_words.specs.declared.replies.Reply.{Reply}
use Rattle.cmd_words.specs.declared.replies.Refusal.TheVariants.{NotConnected}
use Rattle.scene_model.specs.declared.axis.Axis.TheVariants.{Across, Down}
use Rattle.desk_model.specs.Desk.{Desk, is_connected}
use Rattle.desk_model.specs.Refusals.{when, outcome}
use Rattle.desk_model.specs.LetGo.{event_end}
use Rattle.desk_model.specs.WidgetCommands.{step_new, step_set, step_get, step_drop}
use Rattle.desk_model.specs.Placement.{step_place, step_lift}
use Rattle.desk_model.specs.Tracks.{step_track}
use Rattle.desk_model.specs.Links.{step_link, step_unlink}
use Rattle.desk_model.specs.Bindings.{step_bind}
use Rattle.desk_model.specs.Windows.{step_open, step_close, step_top}
use Rattle.desk_model.specs.Screens.{step_mode, step_admit, step_leave, step_frame}
use Rattle.desk_model.specs.Polling.{step_poll}

-- how many bytes come with a command: with `frame` as many as it says, with any other none
abbrev pub payload_size : Command → ℕ
payload_size (SendFrame name size) = size
payload_size _ = 0

-- The bytes may come with the command: they are as many, and at most 65,536.
pub record IsPayload (command : Command) (payload : List ℕ) : Type 0 where
  pub size : length payload ≡ payload_size command
  pub few : length payload ≤ 65536

-- The row of each command. `payload` has the bytes that come with it. `short`: there is no memory for it.
abbrev pub row_of : Command → List ℕ → Desk → ℕ → Bool → Reply × Desk
row_of (New name kind) payload desk client short = step_new desk client name kind short
row_of (Set name options) payload desk client short = step_set desk client name options
row_of (Get name attr) payload desk client short = step_get desk client name attr
row_of (Place parent child options) payload desk client short = step_place desk client parent child options
row_of (Lift parent child) payload desk client short = step_lift desk client parent child
row_of (ColumnConfig name index options) payload desk client short = step_track Across desk client name index options
row_of (RowConfig name index options) payload desk client short = step_track Down desk client name index options
row_of (Link name variable) payload desk client short = step_link desk client name variable
row_of (Unlink name) payload desk client short = step_unlink desk client name
row_of (Bind name event tag) payload desk client short = step_bind desk client name event (Some tag)
row_of (Unbind name event) payload desk client short = step_bind desk client name event None
row_of (OpenWindow name) payload desk client short = step_open desk client name
row_of (CloseWindow name) payload desk client short = step_close desk client name
row_of (TopWindow name) payload desk client short = step_top desk client name
row_of (Mode name w h) payload desk client short = step_mode desk client name w h short
row_of (Admit name period) payload desk client short = step_admit desk client name period
row_of (Leave name) payload desk client short = step_leave desk client name
row_of (SendFrame name size) payload desk client short = step_frame desk client name payload
row_of (DropWidget name) payload desk client short = step_drop desk client name
row_of Poll payload desk client short = step_poll desk client

unfoldable pub step : Desk → ℕ → Command → List ℕ → Bool → Reply × Desk
step desk client command payload short =
    event_end (outcome desk (when (not (is_connected desk client)) NotConnected) (row_of command payload desk client short))

-- Commands that only ask: `get`. They change nothing.
use Rattle.std.specs.Prelude.{◌≡◌, ℕ, Bool, true, false, List}
use Rattle.cmd_words.specs.declared.commands.Command.{Command}
use Rattle.cmd_words.specs.declared.commands.Command.TheVariants.{Get}
use Rattle.cmd_words.specs.declared.replies.Reply.{Reply}
use Rattle.widget_model.specs.Rows.{Row}
use Rattle.desk_model.specs.Desk.{Desk}
use Rattle.desk_model.specs.Commands.{row_of}
use Rattle.desk_core.specs.View.{DeskView}

abbrev pub only_asks : Command → Bool
only_asks (Get name attr) = true
only_asks _ = false

-- the command only asks: its row gives that reply, and the desk as it was
pub record IsAnswer (rows : List Row) (client : ℕ) (command : Command) (reply : Reply) : Type 0 where
  pub asks : only_asks command ≡ true
  pub answers : (payload : List ℕ) (short : Bool) (desk : Desk) → desk.rows ≡ rows → (reply, desk) ≡ row_of command payload desk client short

-- the desk, its numbers and its kept places stay as they were
pub record StaysAsItWas (old new : DeskView) : Type 0 where
  pub desk : new.desk ≡ old.desk
  pub widgets : new.widgets ≡ old.widgets
  pub windows : new.windows ≡ old.windows

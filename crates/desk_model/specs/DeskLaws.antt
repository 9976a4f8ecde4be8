-- Each step of the desk keeps what holds of a desk, and a refused step leaves the desk as it was, by the definitions
-- alone.
use Rattle.std.specs.Prelude.{ℕ, ◌≡◌, Bool, true, List}
use Rattle.kind_core.specs.declared.shapes.Shape.{Shape}
use Rattle.cmd_words.specs.declared.commands.Command.{Command}
use Rattle.cmd_words.specs.declared.inputs.Input.{Input}
use Rattle.cmd_words.specs.declared.replies.Reply.TheVariants.{Refused}
use Rattle.cmd_words.specs.declared.replies.Refusal.{Refusal}
use Rattle.scene_model.specs.Shapes.{IsShape}
use Rattle.widget_model.specs.Clients.{is_client}
use Rattle.desk_model.specs.Desk.{Desk, opening_desk}
use Rattle.desk_model.specs.DeskFacts.{IsDesk}
use Rattle.desk_model.specs.Clients.{step_connect, step_hello, step_bye}
use Rattle.desk_model.specs.Commands.{step}
use Rattle.desk_model.specs.Feeding.{step_feed}
use Rattle.desk_model.specs.Beat.{beat}

-- What holds of a desk holds at opening.
abbrev pub OpeningIsADesk : Type 0
OpeningIsADesk = (shape : Shape) → IsShape shape → IsDesk (opening_desk shape)

-- A client's coming, under a number from 1 to 16 or the least free one, and its going keep it.
abbrev pub ConnectsKeepDesks : Type 0
ConnectsKeepDesks = (desk : Desk) (client : ℕ) (short : Bool) → is_client client ≡ true → IsDesk desk → IsDesk (step_connect desk client short).1

abbrev pub HellosKeepDesks : Type 0
HellosKeepDesks = (desk : Desk) (short : Bool) → IsDesk desk → IsDesk (step_hello desk short).1

abbrev pub ByesKeepDesks : Type 0
ByesKeepDesks = (desk : Desk) (client : ℕ) → IsDesk desk → IsDesk (step_bye desk client).1

-- Each command keeps it, whatever it is and however it is answered.
abbrev pub CommandsKeepDesks : Type 0
CommandsKeepDesks =
    (desk : Desk) (client : ℕ) (command : Command) (payload : List ℕ) (short : Bool) → IsDesk desk → IsDesk (step desk client command payload short).1

-- Each input keeps it, and so does each beat.
abbrev pub InputsKeepDesks : Type 0
InputsKeepDesks = (desk : Desk) (input : Input) → IsDesk desk → IsDesk (step_feed desk input)

abbrev pub BeatsKeepDesks : Type 0
BeatsKeepDesks = (desk : Desk) → IsDesk desk → IsDesk (beat desk)

-- A refused step of a valid desk leaves it as it was: the pointer holds nothing then that the step's ending lets go of.
abbrev pub RefusedConnectsChangeNothing : Type 0
RefusedConnectsChangeNothing =
    (desk : Desk) (client : ℕ) (short : Bool) (refusal : Refusal) → IsDesk desk → (step_connect desk client short).0 ≡ Refused refusal → (step_connect desk client short).1 ≡ desk

abbrev pub RefusedHellosChangeNothing : Type 0
RefusedHellosChangeNothing = (desk : Desk) (short : Bool) (refusal : Refusal) → IsDesk desk → (step_hello desk short).0 ≡ Refused refusal → (step_hello desk short).1 ≡ desk

abbrev pub RefusedByesChangeNothing : Type 0
RefusedByesChangeNothing = (desk : Desk) (client : ℕ) (refusal : Refusal) → IsDesk desk → (step_bye desk client).0 ≡ Refused refusal → (step_bye desk client).1 ≡ desk

abbrev pub RefusedCommandsChangeNothing : Type 0
RefusedCommandsChangeNothing =
    (desk : Desk) (client : ℕ) (command : Command) (payload : List ℕ) (short : Bool) (refusal : Refusal) → IsDesk desk → (step desk client command payload short).0 ≡ Refused refusal → (step desk client command payload short).1 ≡ desk

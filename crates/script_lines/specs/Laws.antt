-- The laws of a script's lines.
use Rattle.std.specs.Prelude.{◌≡◌, ◌⊎◌, ℕ, ◌≤◌, ◌<◌, List, [], ◌∷◌}
use Rattle.cmd_words.specs.declared.commands.Command.{Command}
use Rattle.cmd_words.specs.Grammar.{command_line, IsPlace}
use Rattle.cmd_text.specs.FrameLine.{IsFrameLine}
use Rattle.desk_model.specs.Commands.{payload_size}
use Rattle.script_lines.specs.declared.order.Order.{Order}
use Rattle.script_lines.specs.declared.order.Order.TheVariants.{Nothing, Ask, Misread}
use Rattle.script_lines.specs.Numbers.{IsClient}
use Rattle.script_lines.specs.Sayings.{said_by, frame_limit, IsSayable}
use Rattle.script_lines.specs.Lines.{asks, IsOff}
use Rattle.script_lines.specs.Payloads.{payload_of}

-- a line asks for at most one thing
abbrev pub OneOrder : Type 0
OneOrder = (line : List ℕ) (first second : Order) → asks line first → asks line second → first ≡ second

-- each line, of any length, asks for something or is off the grammar
abbrev pub EachLineIsTold : Type 0
EachLineIsTold = (line : List ℕ) → ((order : Order) × asks line order) ⊎ IsOff line

-- an empty line and each comment ask for nothing
pub record CommentsAskForNothing : Type 0 where
  pub empty : asks [] Nothing
  pub comment : (words : List ℕ) → asks (35 ∷ words) Nothing

-- a command is asked for by the line in which a client says it
abbrev pub CommandsAreAsked : Type 0
CommandsAreAsked =
    (client : ℕ) (said : List ℕ) (command : Command) → IsClient client → IsSayable said → command_line said command → asks (said_by client said) (Ask client command)

-- a line that says no command is a misread one, with its place in what the client said
pub record IsMisreadLine (client : ℕ) (said : List ℕ) : Type 0 where
  pub place : ℕ
  pub order : asks (said_by client said) (Misread client place)
  pub is_place : IsPlace said place

abbrev pub OthersAreMisread : Type 0
OthersAreMisread =
    (client : ℕ) (said : List ℕ) → IsClient client → IsSayable said → ((command : Command) → ¬ command_line said command) → IsMisreadLine client said

-- what a client said in a line that asks for its command
pub record WasSaid (line : List ℕ) (client : ℕ) (command : Command) : Type 0 where
  pub said : List ℕ
  pub is_line : line ≡ said_by client said
  pub sayable : IsSayable said
  pub stands : command_line said command

-- a command that a line asks for is the one that its client said in it
abbrev pub AskedWasSaid : Type 0
AskedWasSaid =
    (line : List ℕ) (client : ℕ) (command : Command) → asks line (Ask client command) → WasSaid line client command

-- what a client said in a line that is misread
pub record WasMisread (line : List ℕ) (client place : ℕ) : Type 0 where
  pub said : List ℕ
  pub is_line : line ≡ said_by client said
  pub sayable : IsSayable said
  pub none : (command : Command) → ¬ command_line said command
  pub is_place : IsPlace said place

-- a misread line is one in which its client said no command, and the place is that of what it said
abbrev pub MisreadWasSaid : Type 0
MisreadWasSaid =
    (line : List ℕ) (client place : ℕ) → asks line (Misread client place) → WasMisread line client place

-- a frame line is bad: each command that it stands for, if any, comes with too many bytes
pub record IsBadFrameLine (said : List ℕ) : Type 0 where
  pub frame : IsFrameLine said
  pub large : (command : Command) → command_line said command → frame_limit < payload_size command

-- a line in which a client says a bad frame line is off the grammar
abbrev pub BadFrameLinesAreOff : Type 0
BadFrameLinesAreOff = (client : ℕ) (said : List ℕ) → IsClient client → IsBadFrameLine said → IsOff (said_by client said)

-- how many raw bytes follow a line is told by it alone
abbrev pub OnePayload : Type 0
OnePayload = (line : List ℕ) (first second : Order) → asks line first → asks line second → payload_of first ≡ payload_of second

-- and they are no more than a frame may have
abbrev pub PayloadsAreSmall : Type 0
PayloadsAreSmall = (line : List ℕ) (order : Order) → asks line order → payload_of order ≤ frame_limit

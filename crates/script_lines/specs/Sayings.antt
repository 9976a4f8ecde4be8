-- What a client says in its line.
use Rattle.std.specs.Prelude.{◌≡◌, ℕ, ◌≤◌, List, ◌∷◌, ◌++◌, length, decimal}
use Rattle.cmd_words.specs.declared.commands.Command.{Command}
use Rattle.cmd_words.specs.Grammar.{command_line}
use Rattle.cmd_text.specs.FrameLine.{IsFrameLine}
use Rattle.desk_model.specs.Commands.{payload_size}
use Rattle.script_lines.specs.Numbers.{IsClient}

-- The line in which a client says this: its number, one space, and all that it says, which may be empty.
abbrev pub said_by : ℕ → List ℕ → List ℕ
said_by client said = decimal client ++ 32 ∷ said

-- how many bytes a command has at most, and how many bytes come with it at most
abbrev pub command_limit : ℕ
command_limit = 512

abbrev pub frame_limit : ℕ
frame_limit = 65536

-- What a client may say: it isn't too long, and it is no bad frame line. A frame line is bad where it stands for no
-- command, or where more bytes come with its command than may.
pub record IsSayable (said : List ℕ) : Type 0 where
  pub short : length said ≤ command_limit
  pub framed : IsFrameLine said → (command : Command) × command_line said command
  pub few : (command : Command) → command_line said command → payload_size command ≤ frame_limit

-- the client says this in the line
pub record Says (line : List ℕ) (client : ℕ) (said : List ℕ) : Type 0 where
  pub is_client : IsClient client
  pub spelled : line ≡ said_by client said
  pub sayable : IsSayable said

-- How the bytes of a connection are cut into lines: each ends with a line feed, and has at most 512 bytes before it. A
-- frame line that isn't bad is followed by so many payload bytes as come with its command; the next line begins behind
-- them. No other line has any.
use Rattle.std.specs.Prelude.{◌≡◌, ◌⊎◌, ◌==◌, ℕ, ◌+◌, ◌<◌, ◌≤◌, Bool, false, List, [], ◌∷◌, ◌++◌, length, take}
use Rattle.std.specs.List.{list_any}
use Rattle.cmd_words.specs.declared.commands.Command.{Command}
use Rattle.cmd_words.specs.Grammar.{command_line}
use Rattle.cmd_text.specs.FrameLine.{IsFrameLine}
use Rattle.cmd_text.specs.Misread.{IsMisread}
use Rattle.desk_model.specs.Commands.{payload_size}
use Rattle.script_lines.specs.Sayings.{command_limit, frame_limit}
use Rattle.wire_link.specs.declared.cut.Cut.{Cut}
use Rattle.wire_link.specs.declared.cut.Cut.TheVariants.{More, Line, Payload, TooLong, BadFrame}

abbrev pub has_feed : List ℕ → Bool
has_feed bytes = list_any (λ byte. byte == 10) bytes

-- bytes that may stand in a line
pub record IsLine (line : List ℕ) : Type 0 where
  pub no_feed : has_feed line ≡ false
  pub short : length line ≤ command_limit

-- more bytes come with the line's command than may; the place is the line's end
pub record IsTooLarge (line : List ℕ) (place : ℕ) : Type 0 where
  pub command : Command
  pub stands : command_line line command
  pub large : frame_limit < payload_size command
  pub at : place ≡ length line

-- A frame line is bad where it stands for no command, or where more bytes come with its command than may.
pub record IsBadFrame (line : List ℕ) (place : ℕ) : Type 0 where
  pub frame : IsFrameLine line
  pub bad : IsMisread line place ⊎ IsTooLarge line place

-- A frame line that isn't bad, which so many payload bytes follow.
pub record IsFrame (line : List ℕ) (size : ℕ) : Type 0 where
  pub frame : IsFrameLine line
  pub command : Command
  pub stands : command_line line command
  pub sized : size ≡ payload_size command
  pub few : size ≤ frame_limit

-- A whole line, without its line feed, and its payload.
pub record IsPlainItem (line payload : List ℕ) : Type 0 where
  pub is_line : IsLine line
  pub plain : IsFrameLine line → ⊥
  pub none : payload ≡ []

pub record IsFrameItem (line payload : List ℕ) : Type 0 where
  pub is_line : IsLine line
  pub frame : IsFrame line (length payload)

abbrev pub IsItem : List ℕ → List ℕ → Type 0
IsItem line payload = IsPlainItem line payload ⊎ IsFrameItem line payload

-- The bytes are not yet a whole line with its payload: a line without its line feed, or one without all its payload.
pub record IsShortOfPayload (bytes : List ℕ) : Type 0 where
  pub line : List ℕ
  pub payload : List ℕ
  pub size : ℕ
  pub is_line : IsLine line
  pub frame : IsFrame line size
  pub spelled : bytes ≡ line ++ 10 ∷ payload
  pub missing : length payload < size

abbrev pub IsPartial : List ℕ → Type 0
IsPartial bytes = IsLine bytes ⊎ IsShortOfPayload bytes

-- The bytes begin with more than a line may have.
pub record BeginsTooLong (bytes : List ℕ) : Type 0 where
  pub long : command_limit + 1 ≤ length bytes
  pub no_feed : has_feed (take (command_limit + 1) bytes) ≡ false

-- The bytes begin with a bad frame line.
pub record BeginsBad (bytes : List ℕ) (place : ℕ) : Type 0 where
  pub line : List ℕ
  pub later : List ℕ
  pub is_line : IsLine line
  pub bad : IsBadFrame line place
  pub spelled : bytes ≡ line ++ 10 ∷ later

-- What a framer holds: the bytes that are in and not yet given out, and the last line that was, with its payload.
pub record Framed : Type 0 where
  pub waiting : List ℕ
  pub line : List ℕ
  pub payload : List ℕ

-- the bytes waiting begin with the line and its payload, and the others wait on
pub record GivesLine (old new : Framed) : Type 0 where
  pub item : IsPlainItem new.line new.payload
  pub spelled : old.waiting ≡ new.line ++ 10 ∷ new.waiting

pub record GivesPayload (old new : Framed) : Type 0 where
  pub item : IsFrameItem new.line new.payload
  pub spelled : old.waiting ≡ new.line ++ 10 ∷ (new.payload ++ new.waiting)

-- What is given out next.
abbrev pub Gives : Framed → Cut → Framed → Type 0
Gives old More new = IsPartial old.waiting × (new ≡ old)
Gives old Line new = GivesLine old new
Gives old Payload new = GivesPayload old new
Gives old TooLong new = BeginsTooLong old.waiting × (new ≡ old)
Gives old (BadFrame place) new = BeginsBad old.waiting place × (new ≡ old)

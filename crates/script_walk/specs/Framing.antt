-- A script's bytes as items: whole lines, each with its line feed and the raw bytes that belong to it; which of them
-- the bytes taken have, and which line is off the grammar.
use Rattle.std.specs.Prelude.{◌≡◌, ◌≢◌, ◌⊎◌, ◌==◌, ℕ, ◌+◌, ◌<◌, ◌≤◌, Bool, false, List, [], ◌∷◌, ◌++◌, length, take}
use Rattle.std.specs.List.{flat_map, list_any}
use Rattle.script_lines.specs.declared.order.Order.{Order}
use Rattle.script_lines.specs.Lines.{asks, IsOff}
use Rattle.script_lines.specs.Payloads.{payload_of}

pub record Item : Type 0 where
  pub line : List ℕ
  pub payload : List ℕ

abbrev pub item : List ℕ → List ℕ → Item
item line payload = record { line = line; payload = payload }

-- So many raw bytes follow the line: as many as come with the command that it asks for, and behind any other line none.
-- No line off the grammar has any.
pub record Wants (line : List ℕ) (size : ℕ) : Type 0 where
  pub order : Order
  pub asked : asks line order
  pub sized : size ≡ payload_of order

-- a line has at most 520 bytes, a script at most 67,108,864
abbrev pub line_limit : ℕ
line_limit = 520

abbrev pub script_limit : ℕ
script_limit = 67108864

-- a read gives at most 4,096 bytes
abbrev pub read_limit : ℕ
read_limit = 4096

abbrev pub has_feed : List ℕ → Bool
has_feed bytes = list_any (λ byte. byte == 10) bytes

-- bytes that may stand in a line
pub record IsLine (line : List ℕ) : Type 0 where
  pub no_feed : has_feed line ≡ false
  pub short : length line ≤ line_limit

pub record IsItem (item : Item) : Type 0 where
  pub line : IsLine item.line
  pub payload : Wants item.line (length item.payload)

abbrev pub bytes_of_item : Item → List ℕ
bytes_of_item item = item.line ++ 10 ∷ item.payload

unfoldable pub bytes_of : List Item → List ℕ
bytes_of items = flat_map bytes_of_item items

-- The bytes are an item that is not yet whole: a line without its line feed, or one without all its raw bytes.
pub record IsShortOfPayload (bytes : List ℕ) : Type 0 where
  pub line : List ℕ
  pub payload : List ℕ
  pub size : ℕ
  pub is_line : IsLine line
  pub spelled : bytes ≡ line ++ 10 ∷ payload
  pub wanted : Wants line size
  pub missing : length payload < size

abbrev pub IsPartial : List ℕ → Type 0
IsPartial bytes = IsLine bytes ⊎ IsShortOfPayload bytes

-- The bytes begin with a whole line that is off the grammar.
pub record BeginsUnread (bytes : List ℕ) : Type 0 where
  pub line : List ℕ
  pub later : List ℕ
  pub is_line : IsLine line
  pub spelled : bytes ≡ line ++ 10 ∷ later
  pub unread : IsOff line

-- The bytes begin with a line that has more bytes than a line may have.
pub record BeginsTooLong (bytes : List ℕ) : Type 0 where
  pub long : line_limit + 1 ≤ length bytes
  pub no_feed : has_feed (take (line_limit + 1) bytes) ≡ false

-- The bytes begin with a line off the grammar, whatever comes behind them.
abbrev pub BeginsOff : List ℕ → Type 0
BeginsOff bytes = BeginsUnread bytes ⊎ BeginsTooLong bytes

-- The bytes are the last of the script, and off the grammar: a line that isn't read, or one whose raw bytes are cut
-- short; of these a line without its line feed lacks all.
pub record EndsUnread (bytes : List ℕ) : Type 0 where
  pub is_line : IsLine bytes
  pub some : bytes ≢ []
  pub unread : IsOff bytes

pub record EndsWithoutPayload (bytes : List ℕ) : Type 0 where
  pub is_line : IsLine bytes
  pub some : bytes ≢ []
  pub size : ℕ
  pub wanted : Wants bytes size
  pub missing : 0 < size

abbrev pub EndsOff : List ℕ → Type 0
EndsOff bytes = EndsUnread bytes ⊎ (EndsWithoutPayload bytes ⊎ IsShortOfPayload bytes)

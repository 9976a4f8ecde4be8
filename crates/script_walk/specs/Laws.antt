-- What holds of every script: its bytes are read in one way, so there is one first line off the grammar; a script
-- inside the grammar isn't refused; and little is read ahead of what is written.
use Rattle.std.specs.Prelude.{◌≡◌, ◌⊎◌, ℕ, ◌+◌, ◌≤◌, List, ◌++◌, length, Option, Some}
use Rattle.std.specs.List.{All}
use Rattle.std.specs.Io.KnownBytes.{Consumes}
use Rattle.script_lines.specs.Sayings.{frame_limit}
use Rattle.script_walk.specs.declared.end.End.TheVariants.{BadLine, TooMuch}
use Rattle.script_walk.specs.Framing.{Item, IsItem, IsPartial, BeginsOff, bytes_of, line_limit, script_limit, read_limit}
use Rattle.script_walk.specs.Covering.{AreWhole, Covers, LastRead}

-- The bytes are these lines with their raw bytes, each read, and then a part that is no whole item or is off the grammar.
pub record IsReading (bytes : List ℕ) (items : List Item) (rest : List ℕ) : Type 0 where
  pub whole : All IsItem items
  pub spelled : bytes ≡ bytes_of items ++ rest
  pub ends : IsPartial rest ⊎ BeginsOff rest

-- Any bytes have a reading, and only one.
abbrev pub BytesHaveAReading : Type 0
BytesHaveAReading = (bytes : List ℕ) → (items : List Item) × (rest : List ℕ) × IsReading bytes items rest

abbrev pub ReadingsAreOne : Type 0
ReadingsAreOne =
    (bytes : List ℕ) (first second : List Item) (rest other : List ℕ)
    → IsReading bytes first rest → IsReading bytes second other → (first ≡ second) × (rest ≡ other)

-- What is no whole item is not off the grammar.
abbrev pub PartsAreNotOff : Type 0
PartsAreNotOff = (bytes : List ℕ) → IsPartial bytes → BeginsOff bytes → ⊥

-- A script inside the grammar: whole lines, each read, within the limit.
pub record IsScript (bytes : List ℕ) : Type 0 where
  pub items : List Item
  pub lines : All IsItem items
  pub whole : AreWhole bytes items
  pub short : length bytes ≤ script_limit

-- No line of it is found bad, and it isn't too long.
abbrev pub ScriptsAreNotRefused : Type 0
ScriptsAreNotRefused =
    (bytes taken : List ℕ) (left : Option (List ℕ)) (items : List Item) (line : ℕ)
    → IsScript bytes → Consumes (Some bytes) left taken → All IsItem items
    → (Covers (BadLine line) taken left items → ⊥) × (Covers TooMuch taken left items → ⊥)

-- What was taken behind the lines that are carried out and written before the last read is part of a line and of the
-- raw bytes that follow it, and the bytes of one read, at most 520, 65,536 and 4,096.
abbrev pub LittleIsReadAhead : Type 0
LittleIsReadAhead =
    (taken : List ℕ) → (read : LastRead taken)
    → (rest : List ℕ) × (taken ≡ bytes_of read.lines ++ rest) × (length rest ≤ line_limit + frame_limit + read_limit)

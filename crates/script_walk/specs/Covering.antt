-- Which lines of the bytes taken a walk works through, by how it ends.
use Rattle.std.specs.Prelude.{◌≡◌, ◌≢◌, ◌⊎◌, ℕ, ◌+◌, ◌≤◌, List, [], ◌∷◌, ◌++◌, length, take, Option}
use Rattle.std.specs.Io.KnownBytes.{IsAtEnd}
use Rattle.script_walk.specs.declared.end.End.{End}
use Rattle.script_walk.specs.declared.end.End.TheVariants.{Done, ReadFault, WriteFault, BadLine, TooMuch}
use Rattle.script_walk.specs.Framing.{Item, Wants, IsPartial, BeginsOff, EndsOff, bytes_of, item, script_limit, read_limit}

-- The bytes end with a last line that has no line feed and no raw bytes to follow; it counts as a line.
pub record IsUnended (bytes : List ℕ) (items : List Item) : Type 0 where
  pub front : List Item
  pub last : List ℕ
  pub listed : items ≡ front ++ item last [] ∷ []
  pub some : last ≢ []
  pub no_payload : Wants last 0
  pub spelled : bytes ≡ bytes_of front ++ last

-- all the bytes are these items
abbrev pub AreWhole : List ℕ → List Item → Type 0
AreWhole bytes items = (bytes ≡ bytes_of items) ⊎ IsUnended bytes items

-- The items are all whole lines of the bytes, each with its raw bytes, up to one that is off the grammar.
pub record AreLinesOf (bytes : List ℕ) (items : List Item) : Type 0 where
  pub rest : List ℕ
  pub spelled : bytes ≡ bytes_of items ++ rest
  pub ends : IsPartial rest ⊎ BeginsOff rest

-- The bytes taken are the items, and then one that is not yet whole.
pub record AreCutShort (bytes : List ℕ) (items : List Item) : Type 0 where
  pub rest : List ℕ
  pub spelled : bytes ≡ bytes_of items ++ rest
  pub partial : IsPartial rest

-- Behind the items comes a line off the grammar; it may be the last one, where the source is at its end.
pub record AreFollowedByOff (bytes : List ℕ) (items : List Item) (source : Option (List ℕ)) : Type 0 where
  pub rest : List ℕ
  pub spelled : bytes ≡ bytes_of items ++ rest
  pub off : BeginsOff rest ⊎ (EndsOff rest × IsAtEnd source)

-- Which lines of the bytes taken were worked through, by how the walk ended. A last line without a line feed is one only
-- where the source was read to its end.
abbrev pub Covers : End → List ℕ → Option (List ℕ) → List Item → Type 0
Covers Done taken source items = AreWhole taken items × IsAtEnd source × (length taken ≤ script_limit)
Covers ReadFault taken source items = AreCutShort taken items × (length taken ≤ script_limit)
Covers WriteFault taken source items = ((AreWhole taken items × IsAtEnd source) ⊎ AreLinesOf taken items) × (length taken ≤ script_limit)
Covers (BadLine line) taken source items = AreFollowedByOff taken items source × (line ≡ length items + 1) × (length taken ≤ script_limit)
Covers TooMuch taken source items = AreCutShort (take script_limit taken) items × (length taken ≡ script_limit + 1)

-- The order of work: when the last read began, what had been taken before it was whole lines with their raw bytes, each
-- read, and a part of one more.
pub record LastRead (taken : List ℕ) : Type 0 where
  pub before : List ℕ
  pub last : List ℕ
  pub parts : taken ≡ before ++ last
  pub one_read : length last ≤ read_limit
  pub lines : List Item
  pub cut : AreCutShort before lines

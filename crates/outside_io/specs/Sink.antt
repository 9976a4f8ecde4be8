-- A sink in memory holds what is written, up to its capacity. It fails at the calls whose numbers, from 1 on,
-- are in the list `fail_at`, and at a write whose bytes don't all fit; a write that fails keeps nothing.
use Rattle.std.specs.Prelude.{ℕ, ◌+◌, ◌<◌, ◌≤◌, ◌⊎◌, List, length, take, Option, Contains}
use Rattle.std.specs.Io.KnownBytes.{Appends}
use Rattle.outside_io.specs.Count.{one_more}

pub record SinkInMemory : Type 0 where
  pub held : List ℕ
  pub capacity : ℕ
  pub fail_at : List ℕ
  pub calls : ℕ
  pub faults : ℕ

-- the next call fails if it writes `count` bytes
abbrev pub WriteFails : SinkInMemory → ℕ → Type 0
WriteFails s count = Contains s.fail_at (one_more s.calls) ⊎ (s.capacity < length s.held + count)

-- a front of these bytes was appended, maybe none of them and maybe all
pub record AppendsFront (old new : Option (List ℕ)) (bytes : List ℕ) : Type 0 where
  pub count : ℕ
  pub within : count ≤ length bytes
  pub appended : Appends old new (take count bytes)

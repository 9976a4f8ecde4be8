-- A source in memory gives its bytes in order, at most `step` of them a call, and fails at the calls
-- whose numbers, from 1 on, are in the list `fail_at`.
use Rattle.std.specs.Prelude.{ℕ, List, length, min, Contains}
use Rattle.outside_io.specs.Count.{one_more}

pub record SourceInMemory : Type 0 where
  pub left : List ℕ
  pub step : ℕ
  pub fail_at : List ℕ
  pub calls : ℕ
  pub faults : ℕ

-- the next call is one of those that fail
abbrev pub ReadFails : SourceInMemory → Type 0
ReadFails s = Contains s.fail_at (one_more s.calls)

-- how many bytes a call that doesn't fail gives to a buffer with room for `room`
abbrev pub given : SourceInMemory → ℕ → ℕ
given s room = min room (min s.step (length s.left))

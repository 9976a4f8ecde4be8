-- A ring keeps the latest events posted to a client, at most 32 of them, the oldest first, and the number of those
-- that were lost since the client was last told. That number stays at 4,294,967,295 once it is there.
use Rattle.std.specs.Prelude.{ℕ, ℤ, ◌≤◌, List, [], length}
use Rattle.kind_core.specs.declared.kinds.EventKind.{EventKind}
use Rattle.bind_core.specs.declared.posted.Posted.{Posted}

-- An event is its tag's bytes, its kind and its two numbers, which may be negative: a release can be left of its
-- widget or above it.
abbrev pub Event : Type 0
Event = List ℕ × EventKind × ℤ × ℤ

abbrev pub event_of : Posted → Event
event_of posted = (posted.tag, posted.event, posted.a, posted.b)

pub record RingState : Type 0 where
  pub kept : List Event
  pub lost : ℕ

-- how many events a ring keeps at most
abbrev pub most_kept : ℕ
most_kept = 32

-- the number lost that stands for itself and every greater one
abbrev pub most_lost : ℕ
most_lost = 4294967295

-- what is true of every ring
pub record IsRing (ring : RingState) : Type 0 where
  pub few : length ring.kept ≤ most_kept
  pub counted : ring.lost ≤ most_lost

-- a new ring keeps no event, and none was lost
abbrev pub new_ring : RingState
new_ring = record { kept = []; lost = 0 }

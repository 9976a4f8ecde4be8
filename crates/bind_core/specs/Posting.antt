-- An event that is posted is kept as the latest. Where the ring is full the oldest is dropped for it, and the number
-- lost rises by one, unless it is at its most.
use Rattle.std.specs.Prelude.{◌+◌, Bool, nat_lt, min, List, [], ◌∷◌, ◌++◌, length, drop, if◌then◌else◌}
use Rattle.bind_core.specs.Ring.{Event, RingState, most_kept, most_lost}

-- whether one more event has room beside those that are kept
abbrev pub has_room : List Event → Bool
has_room kept = nat_lt (length kept) most_kept

-- the kept events with one more as the latest, in place of the oldest where there is no room
unfoldable pub kept_with : List Event → Event → List Event
kept_with kept event = (if has_room kept then kept else drop 1 kept) ++ event ∷ []

unfoldable pub after_post : RingState → Event → RingState
after_post ring event = record {
  kept = kept_with ring.kept event;
  lost = if has_room ring.kept then ring.lost else min (ring.lost + 1) most_lost;
}

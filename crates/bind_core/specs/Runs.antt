-- Events posted one after the other, and polls one after the other.
use Rattle.std.specs.Prelude.{ℕ, zero, suc, List, [], ◌∷◌, ◌++◌, map, if◌then◌else◌}
use Rattle.bind_core.specs.declared.polled.Polled.{Polled}
use Rattle.bind_core.specs.declared.polled.Polled.TheVariants.{Lost}
use Rattle.bind_core.specs.Ring.{Event, RingState}
use Rattle.bind_core.specs.Posting.{after_post}
use Rattle.bind_core.specs.Polling.{has_lost, one_of, poll_answer, after_poll}

-- the ring after these events, the first one posted first
abbrev pub after_posts : RingState → List Event → RingState
after_posts ring [] = ring
after_posts ring (event ∷ events) = after_posts (after_post ring event) events

-- the answers of so many polls
abbrev pub answers : ℕ → RingState → List Polled
answers zero ring = []
answers (suc count) ring = poll_answer ring ∷ answers count (after_poll ring)

-- the ring after so many polls
abbrev pub after_polls : ℕ → RingState → RingState
after_polls zero ring = ring
after_polls (suc count) ring = after_polls count (after_poll ring)

-- All that a ring has to tell: the number lost where it is above 0, then each kept event, the oldest first.
unfoldable pub untold : RingState → List Polled
untold ring = (if has_lost ring then Lost ring.lost ∷ [] else []) ++ map one_of ring.kept

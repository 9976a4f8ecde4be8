-- What a ring promises over whole runs of posts and polls.
use Rattle.std.specs.Prelude.{◌≡◌, ℕ, ◌+◌, ◌-◌, List, ◌++◌, length, drop, min}
use Rattle.bind_core.specs.Ring.{Event, RingState, IsRing, most_kept, most_lost, new_ring}
use Rattle.bind_core.specs.Runs.{after_posts, answers, after_polls, untold}

-- Whatever is posted, the latest 32 of all events are kept, in their order, and each other one is counted as lost.
abbrev pub KeepsTheLatest : Type 0
KeepsTheLatest =
    (ring : RingState) (events : List Event) → IsRing ring →
    let all : List Event = ring.kept ++ events in
    let rest : ℕ = length all - most_kept in
    after_posts ring events ≡ record { kept = drop rest all; lost = min (ring.lost + rest) most_lost }

-- So many polls as the ring has things to tell answer with these, in their order, and leave it as a new one is.
abbrev pub TellsAll : Type 0
TellsAll =
    (ring : RingState) → (answers (length (untold ring)) ring ≡ untold ring) × (after_polls (length (untold ring)) ring ≡ new_ring)

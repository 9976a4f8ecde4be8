-- A client that polls is told first of events that were lost, then of the oldest kept one.
use Rattle.std.specs.Prelude.{Bool, nat_lt, List, [], ◌∷◌, drop, if◌then◌else◌}
use Rattle.bind_core.specs.declared.polled.Polled.{Polled}
use Rattle.bind_core.specs.declared.polled.Polled.TheVariants.{Lost, One, Empty}
use Rattle.bind_core.specs.Ring.{Event, RingState}

-- whether events were lost since the client was last told
abbrev pub has_lost : RingState → Bool
has_lost ring = nat_lt 0 ring.lost

-- the answer with this event
abbrev pub one_of : Event → Polled
one_of (tag, event, a, b) = One (record { tag = tag; event = event; a = a; b = b })

-- the answer with the oldest of the kept events, where there is one
abbrev pub oldest : List Event → Polled
oldest [] = Empty
oldest (event ∷ _) = one_of event

-- the number lost where it is above 0, else the oldest kept event, where there is one
unfoldable pub poll_answer : RingState → Polled
poll_answer ring = if has_lost ring then Lost ring.lost else oldest ring.kept

-- once told, the number lost is 0, and an event that was told is kept no longer
unfoldable pub after_poll : RingState → RingState
after_poll ring = if has_lost ring then record ring { lost = 0 } else record ring { kept = drop 1 ring.kept }

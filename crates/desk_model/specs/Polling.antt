-- The events that clients haven't polled yet, and the command that polls one.
use Rattle.std.specs.Prelude.{ℕ, nat_eq, List, map, if◌then◌else◌}
use Rattle.std.specs.List.{find}
use Rattle.std.specs.Option.{option_map_or}
use Rattle.cmd_words.specs.declared.replies.Reply as reply
use Rattle.cmd_words.specs.declared.replies.Reply.{Reply}
use Rattle.bind_core.specs.declared.polled.Polled.{Polled}
use Rattle.bind_core.specs.declared.polled.Polled.TheVariants as polled
use Rattle.bind_core.specs.Ring.{RingState, new_ring}
use Rattle.bind_core.specs.Polling.{poll_answer, after_poll}
use Rattle.desk_model.specs.Desk.{Desk, Ring}

-- the events kept for the client
abbrev pub ring_of : List Ring → ℕ → RingState
ring_of rings client = option_map_or (λ ring. ring.events) (find (λ ring. nat_eq client ring.client) rings) new_ring

-- the rings with the client's changed
abbrev pub with_own_ring : ℕ → (RingState → RingState) → Ring → Ring
with_own_ring client change ring = if nat_eq client ring.client then record ring { events = change ring.events } else ring

abbrev pub with_ring : ℕ → (RingState → RingState) → List Ring → List Ring
with_ring client change rings = map (with_own_ring client change) rings

-- what a poll is answered
abbrev pub poll_reply : Polled → Reply
poll_reply (polled.Lost count) = reply.TheVariants.Lost count
poll_reply (polled.One posted) = reply.TheVariants.Event posted.tag posted.event posted.a posted.b
poll_reply polled.Empty = reply.TheVariants.NoEvent

-- `poll()`: how many were lost, where some were; else the oldest kept event, which is kept no longer; else none. It is
-- never refused.
unfoldable pub step_poll : Desk → ℕ → Reply × Desk
step_poll desk client =
    (poll_reply (poll_answer (ring_of desk.rings client)), record desk { rings = with_ring client after_poll desk.rings })

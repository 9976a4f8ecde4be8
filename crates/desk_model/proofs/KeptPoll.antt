-- Polling an event leaves a sound desk.
use Rattle.std.proofs.Common.{ℕ, Bool, true, false, cond, drop, arith}
use Rattle.std.proofs.lemmas.List.{length-drop}
use Rattle.bind_core.specs.Ring.{RingState, IsRing}
use Rattle.bind_core.specs.Polling.{has_lost, after_poll}
use Rattle.desk_model.specs.Desk.{Desk}
use Rattle.desk_model.specs.Polling.{step_poll}
use Rattle.desk_model.proofs.Sound.{IsSound}
use Rattle.desk_model.proofs.Rings.{AreRingsOf-with_ring}

IsRing-after_poll : (ring : RingState) → IsRing ring → IsRing (after_poll ring)
unfolding after_poll
IsRing-after_poll ring is = by (has_lost ring)
  where
    by : (b : Bool) → IsRing (cond b (record ring { lost = 0 }) (record ring { kept = drop 1 ring.kept }))
    by true = record { few = is.few; counted = omega arith }
    by false = record { few = omega (arith, is.few, length-drop 1 ring.kept); counted = is.counted }

pub IsSound-poll : (desk : Desk) (client : ℕ) → IsSound desk → IsSound (step_poll desk client).1
unfolding step_poll
IsSound-poll desk client sound =
    record {
      shape = sound.shape;
      clients = sound.clients;
      connected_once = sound.connected_once;
      rows = sound.rows;
      by_kind = sound.by_kind;
      roster = sound.roster;
      rings = AreRingsOf-with_ring desk.clients desk.rings client after_poll IsRing-after_poll sound.rings;
      windows = sound.windows;
    }

-- Events in the room of a ring and as contracts see them: what is dropped, added and taken out there.
use Rattle.std.proofs.Common.{◌≡◌, ◌-◌, ◌≤◌, List, [], ◌∷◌, ◌++◌, map, length, drop, slice_get, Option, Some, None, refl, sym, ◌∙◌, ap, arith}
use Rattle.std.proofs.lemmas.List.{places, length-map, map-append}
use Rattle.std.proofs.lemmas.Bool.Decides.{nat_tests}
use Rattle.std.specs.List.{drop-map}
use Rattle.circular_buffer.specs.Buffer.{keep_last}
use Rattle.bind_core.specs.declared.posted.Posted.{Posted}
use Rattle.bind_core.specs.declared.polled.Polled.{Polled}
use Rattle.bind_core.specs.declared.polled.Polled.TheVariants.{One, Empty}
use Rattle.bind_core.specs.Ring.{Event, event_of}
use Rattle.bind_core.specs.Polling.{oldest}
use Rattle.bind_core.specs.Posting.{kept_with}

-- the answer with the first of these events
pub told : Option Posted → Polled
told None = Empty
told (Some posted) = One posted

pub told_oldest : (items : List Posted) → oldest (map event_of items) ≡ told (slice_get items 0)
unfolding told
told_oldest [] = refl
told_oldest (posted ∷ items) = refl

pub fewer_events : (items : List Posted) → drop 1 (map event_of items) ≡ map event_of (drop 1 items)
fewer_events items = drop-map event_of 1 items

-- the latest 32 of the kept events and one more
pub latest : (kept : List Event) (event : Event) → length kept ≤ 32 → keep_last 32 (kept ++ event ∷ []) ≡ kept_with kept event
unfolding kept_with
latest kept event few = grind (arith, places, nat_tests)

-- the events in the room, as contracts see them
pub put_last : (items : List Posted) (posted : Posted) → length items ≤ 32 → map event_of (keep_last 32 (items ++ posted ∷ [])) ≡ kept_with (map event_of items) (event_of posted)
put_last items posted few =
    let all : List Posted = items ++ posted ∷ [] in
    let seen : map event_of (keep_last 32 all) ≡ keep_last 32 (map event_of all) = sym (drop-map event_of (length all - 32) all) ∙ ap (λ n. drop (n - 32) (map event_of all)) (sym (length-map all event_of)) in
    seen ∙ ap (keep_last 32) (map-append event_of items (posted ∷ [])) ∙ latest (map event_of items) (event_of posted) (rw (length-map items event_of) few)

-- two runs put one after the other into an empty room that has place for both
pub moved : (first second : List Posted) → length (first ++ second) ≤ 32 → keep_last 32 (keep_last 32 ([] ++ first) ++ second) ≡ first ++ second
moved first second few = grind (arith, places, nat_tests)

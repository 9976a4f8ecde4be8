-- Whole runs of posts and polls.
use Rattle.std.proofs.Common.{◌≡◌, nat_lt, ℕ, suc, ◌+◌, ◌-◌, ◌<◌, ◌≤◌, true, List, [], ◌∷◌, ◌++◌, map, length, drop, min, append-nil, if◌then◌else◌, zero, refl, sym, ◌∙◌, ap, arith}
use Rattle.std.proofs.lemmas.List.{places, append_assoc, length-drop, drop-drop, drop-append-le}
use Rattle.std.proofs.lemmas.Bool.{lt-ltb}
use Rattle.std.proofs.lemmas.Bool.Decides.{nat_tests}
use Rattle.bind_core.specs.declared.polled.Polled.TheVariants.{Lost}
use Rattle.bind_core.specs.Ring.{Event, RingState, IsRing, most_lost, new_ring}
use Rattle.bind_core.specs.Posting.{has_room, kept_with, after_post}
use Rattle.bind_core.specs.Polling.{one_of, poll_answer, after_poll}
use Rattle.bind_core.specs.Runs.{after_posts, answers, after_polls, untold}
use Rattle.circular_buffer.specs.Buffer.{keep_last}
use Rattle.bind_core.proofs.Events.{latest}
use Rattle.bind_core.specs.Laws.{KeepsTheLatest, TellsAll}

-- the ring that keeps the latest of these events, of which so many were lost before
ring_of : List Event → ℕ → RingState
ring_of all lost = record { kept = drop (length all - 32) all; lost = min (lost + (length all - 32)) most_lost }

-- a ring keeps the latest of its own events
ring_of-kept : (ring : RingState) → IsRing ring → ring ≡ ring_of ring.kept ring.lost
unfolding ring_of
ring_of-kept ring valid = grind (arith, places, valid.few, valid.counted)

-- dropping some of what isn't kept leaves what is kept
keep_last-drop : (count : ℕ) (xs : List Event) → count ≤ length xs - 32 → keep_last 32 (drop count xs) ≡ keep_last 32 xs
keep_last-drop count xs few =
    let rest : count + (length (drop count xs) - 32) ≡ length xs - 32 = omega (arith, length-drop count xs, few) in
    drop-drop (length (drop count xs) - 32) count xs ∙ ap (λ n. drop n xs) rest

kept_with-drop : (all : List Event) (event : Event) → kept_with (drop (length all - 32) all) event ≡ drop (length (all ++ event ∷ []) - 32) (all ++ event ∷ [])
kept_with-drop all event =
    let gone : ℕ = length all - 32 in
    let few : length (drop gone all) ≤ 32 = omega (arith, length-drop gone all) in
    let within : gone ≤ length (all ++ event ∷ []) - 32 = grind (arith, places) in
    sym (latest (drop gone all) event few)
    ∙ ap (keep_last 32) (sym (drop-append-le gone all (event ∷ []) (omega arith)))
    ∙ keep_last-drop gone (all ++ event ∷ []) within

lost-drop : (all : List Event) (event : Event) (lost : ℕ) → (if has_room (drop (length all - 32) all) then min (lost + (length all - 32)) most_lost else min (min (lost + (length all - 32)) most_lost + 1) most_lost) ≡ min (lost + (length (all ++ event ∷ []) - 32)) most_lost
lost-drop all event lost = grind (arith, places, nat_tests)

-- with one event more it keeps the latest of them all
after_post-ring_of : (all : List Event) (lost : ℕ) (event : Event) → lost ≤ most_lost → after_post (ring_of all lost) event ≡ ring_of (all ++ event ∷ []) lost
unfolding ring_of after_post
after_post-ring_of all lost event few = λ i. record { kept = kept_with-drop all event i; lost = lost-drop all event lost i }

after_posts-ring_of : (all : List Event) (lost : ℕ) (events : List Event) → lost ≤ most_lost → after_posts (ring_of all lost) events ≡ ring_of (all ++ events) lost
after_posts-ring_of all lost [] few = ap (λ xs. ring_of xs lost) (sym (append-nil all))
after_posts-ring_of all lost (event ∷ events) few =
    ap (λ ring. after_posts ring events) (after_post-ring_of all lost event few)
    ∙ after_posts-ring_of (all ++ event ∷ []) lost events few
    ∙ ap (λ xs. ring_of xs lost) (append_assoc all (event ∷ []) events)

pub keeps_the_latest : KeepsTheLatest
unfolding ring_of
keeps_the_latest ring events valid =
    ap (λ r. after_posts r events) (ring_of-kept ring valid) ∙ after_posts-ring_of ring.kept ring.lost events valid.counted

-- where none was lost, each poll tells one kept event
tells_kept : (kept : List Event) → (answers (length (map one_of kept)) (record { kept = kept; lost = 0 }) ≡ map one_of kept) × (after_polls (length (map one_of kept)) (record { kept = kept; lost = 0 }) ≡ new_ring)
unfolding poll_answer after_poll
tells_kept [] = (refl, refl)
tells_kept (event ∷ kept) = (ap (λ told. one_of event ∷ told) (tells_kept kept).0, (tells_kept kept).1)

-- where some were lost, the first poll tells how many
record TellsLost (ring : RingState) : Type 0 where
  things : untold ring ≡ Lost ring.lost ∷ map one_of ring.kept
  answer : poll_answer ring ≡ Lost ring.lost
  after : after_poll ring ≡ record ring { lost = 0 }

tells_lost : (ring : RingState) → 0 < ring.lost → TellsLost ring
unfolding poll_answer after_poll untold
tells_lost ring some =
    let has : nat_lt 0 ring.lost ≡ true = lt-ltb 0 ring.lost some in
    record { things = rw has refl; answer = rw has refl; after = rw has refl }

tells_ring : (kept : List Event) (lost : ℕ) → let ring : RingState = record { kept = kept; lost = lost } in (answers (length (untold ring)) ring ≡ untold ring) × (after_polls (length (untold ring)) ring ≡ new_ring)
unfolding untold
tells_ring kept zero = tells_kept kept
tells_ring kept (suc lost) =
    let first : TellsLost (record { kept = kept; lost = suc lost }) = tells_lost (record { kept = kept; lost = suc lost }) (omega arith) in (
      rw (first.things, first.answer, first.after) (ap (λ told. Lost (suc lost) ∷ told) (tells_kept kept).0),
      rw first.things (ap (after_polls (length (map one_of kept))) first.after ∙ (tells_kept kept).1),
    )

pub tells_all : TellsAll
tells_all ring = tells_ring ring.kept ring.lost

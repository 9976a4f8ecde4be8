-- What holds of the rings when a client comes or goes, and when one of them changes.
use Rattle.std.proofs.Common.{◌≡◌, ℕ, Bool, true, false, cond, not, nat_eq, List, [], ◌∷◌, ◌++◌, map, refl, ap, ◌∙◌, arith}
use Rattle.std.proofs.lemmas.List.{map-append}
use Rattle.std.proofs.lemmas.List.Elements.{All-map, All-push, All-weaker, All-filter}
use Rattle.std.specs.List.{filter}
use Rattle.bind_core.specs.Ring.{RingState, IsRing, new_ring}
use Rattle.desk_model.specs.Desk.{Ring}
use Rattle.desk_model.specs.Polling.{with_own_ring, with_ring}
use Rattle.desk_model.specs.DeskFacts.{AreRingsOf}

abbrev owner_of : Ring → ℕ
owner_of ring = ring.client

abbrev IsOwnRing : Ring → Type 0
IsOwnRing ring = IsRing ring.events

IsRing-new : IsRing new_ring
IsRing-new = record { few = omega arith; counted = omega arith }

pub AreRingsOf-push : (clients : List ℕ) (rings : List Ring) (client : ℕ) → AreRingsOf clients rings → AreRingsOf (clients ++ client ∷ []) (rings ++ record { client = client; events = new_ring } ∷ [])
AreRingsOf-push clients rings client kept =
    let ring : Ring = record { client = client; events = new_ring } in
    record {
      each = map-append owner_of rings (ring ∷ []) ∙ ap (λ (owners : List ℕ). owners ++ client ∷ []) kept.each;
      valid = All-push IsOwnRing rings ring kept.valid IsRing-new;
    }

-- to leave out by what each is mapped to is to leave that out
map-filter : {X Y : Type 0} (f : X → Y) (p : Y → Bool) (xs : List X) → map f (filter (λ x. p (f x)) xs) ≡ filter p (map f xs)
map-filter f p [] = refl
map-filter f p (x ∷ xs) = by (map-filter f p xs) (p (f x))
  where
    by : map f (filter (λ x. p (f x)) xs) ≡ filter p (map f xs) → (b : Bool) → map f (cond b (x ∷ filter (λ x. p (f x)) xs) (filter (λ x. p (f x)) xs)) ≡ cond b (f x ∷ filter p (map f xs)) (filter p (map f xs))
    by rest true = ap (λ ys. f x ∷ ys) rest
    by rest false = rest

pub AreRingsOf-others : (clients : List ℕ) (rings : List Ring) (client : ℕ) → AreRingsOf clients rings → AreRingsOf (filter (λ other. not (nat_eq client other)) clients) (filter (λ ring. not (nat_eq client ring.client)) rings)
AreRingsOf-others clients rings client kept =
    record {
      each = map-filter owner_of (λ other. not (nat_eq client other)) rings ∙ ap (λ (owners : List ℕ). filter (λ other. not (nat_eq client other)) owners) kept.each;
      valid = All-filter (λ ring. not (nat_eq client ring.client)) IsOwnRing rings kept.valid;
    }

-- a change of a client's ring that leaves it a ring
pub AreRingsOf-with_ring : (clients : List ℕ) (rings : List Ring) (client : ℕ) (change : RingState → RingState) → ((ring : RingState) → IsRing ring → IsRing (change ring)) → AreRingsOf clients rings → AreRingsOf clients (with_ring client change rings)
AreRingsOf-with_ring clients rings client change keeps kept =
    record {
      each = owners rings ∙ kept.each;
      valid = All-map IsOwnRing (with_own_ring client change) rings (All-weaker IsOwnRing (λ ring. IsOwnRing (with_own_ring client change ring)) (λ ring is. own ring (nat_eq client ring.client) is) rings kept.valid);
    }
  where
    own : (ring : Ring) (b : Bool) → IsOwnRing ring → IsOwnRing (cond b (record ring { events = change ring.events }) ring)
    own ring true is = keeps ring.events is
    own ring false is = is

    owner : (ring : Ring) (b : Bool) → (cond b (record ring { events = change ring.events }) ring).client ≡ ring.client
    owner ring true = refl
    owner ring false = refl

    owners : (rings : List Ring) → map owner_of (with_ring client change rings) ≡ map owner_of rings
    owners [] = refl
    owners (ring ∷ rings) = rw (owner ring (nat_eq client ring.client), owners rings) refl

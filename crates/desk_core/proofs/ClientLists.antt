-- The connected clients: there are at most 16, and which is the least that is free.
use Rattle.std.proofs.Common.{◌≡◌, ℕ, zero, suc, ◌+◌, ◌-◌, ◌<◌, ◌≤◌, Bool, true, false, cond, not, ◌||◌, nat_le, nat_eq, List, [], ◌∷◌, ◌++◌, length, slice_get, slice_set, get_or, slice_index_or, Option, Some, None, refl, sym, ap, ap₂, ◌∙◌, subst, arith}
use Rattle.std.proofs.lemmas.Bool.{true≢false, leb-true, le-leb, eqb-true, and_parts, and_from, or_parts, or_from, ne_eqb}
use Rattle.std.proofs.lemmas.List.Folds.{list_all-append}
use Rattle.std.proofs.lemmas.List.FromFn.{length-range_with_len}
use Rattle.std.specs.Cmp.{nat_eq_equiv}
use Rattle.std.specs.Option.{option_map}
use Rattle.std.specs.List.{list_all, list_any, filter, range_with_len}
use Rattle.stack_core.specs.Stack.{holds_key, without, AreDistinct}
use Rattle.stack_core.proofs.Keys.{AreDistinct-without}
use Rattle.desk_model.specs.Clients.{free_from}
use Rattle.desk_model.proofs.Clients.{AreConnectedOnce-push}
use Rattle.desk_model.specs.DeskFacts.{AreConnectedOnce}
use Rattle.widget_model.specs.Clients.{is_client, is_joined}
use Rattle.bind_core.specs.Ring.{RingState}
use Rattle.desk_model.specs.Desk.{Ring}
use Rattle.desk_model.specs.Polling.{ring_of, with_ring}
use Rattle.tree_core.proofs.Listed.{any_at}
use Rattle.desk_core.specs.declared.member.Member.{Member}
use Rattle.desk_core.specs.ClientList.{ring_of_member, rings_of, clients_of, IsJoined}
use Rattle.desk_commands.proofs.Counting.{no_longer, range_holds}
use Rattle.desk_commands.proofs.OthersLists.{list_all-without, without-filter}

pub is_joined-holds_key : (clients : List ℕ) (client : ℕ) → is_joined clients client ≡ holds_key clients client
is_joined-holds_key [] client = refl
is_joined-holds_key (c ∷ cs) client = rw (nat_eq_equiv.symm client c, is_joined-holds_key cs client) refl

-- connected once and distinct are the same
pub distinct-once : (clients : List ℕ) → AreConnectedOnce clients → AreDistinct clients
distinct-once [] once = tt
distinct-once (c ∷ cs) once = (sym (is_joined-holds_key cs c) ∙ once.0, distinct-once cs once.1)

pub once-distinct : (clients : List ℕ) → AreDistinct clients → AreConnectedOnce clients
once-distinct [] distinct = tt
once-distinct (c ∷ cs) distinct = (is_joined-holds_key cs c ∙ distinct.0, once-distinct cs distinct.1)

-- clients are among the 16
in_range : (clients : List ℕ) → list_all is_client clients ≡ true → list_all (holds_key (range_with_len 1 16)) clients ≡ true
in_range [] h = refl
in_range (c ∷ cs) h =
    let parts = and_parts (is_client c) (list_all is_client cs) h in
    let ends = and_parts (nat_le 1 c) (nat_le c 16) parts.0 in
    let high = leb-true c 16 ends.1 in
    and_from _ _ (range_holds 1 16 c (leb-true 1 c ends.0) (omega arith)) (in_range cs parts.1)

pub at_most_16 : (clients : List ℕ) → IsJoined clients → length clients ≤ 16
at_most_16 clients kept = omega (arith, no_longer clients (range_with_len 1 16) (distinct-once clients kept.once) (in_range clients kept.range), length-range_with_len 1 16)

-- one that isn't there can join
pub room_for_one : (clients : List ℕ) (client : ℕ) → IsJoined clients → 1 ≤ client → client ≤ 16 → is_joined clients client ≡ false → length clients < 16
room_for_one clients client kept low high new =
    let all : IsJoined (client ∷ clients) = record {
      range = and_from _ _ (and_from _ _ (le-leb 1 client low) (le-leb client 16 high)) kept.range;
      once = (new, kept.once);
    } in
    omega (arith, at_most_16 (client ∷ clients) all)

pub IsJoined-push : (clients : List ℕ) (client : ℕ) → IsJoined clients → 1 ≤ client → client ≤ 16 → is_joined clients client ≡ false → IsJoined (clients ++ client ∷ [])
IsJoined-push clients client kept low high new =
    record {
      range = list_all-append is_client clients (client ∷ []) ∙ rw (kept.range, le-leb 1 client low, le-leb client 16 high) refl;
      once = AreConnectedOnce-push clients client kept.once new;
    }

-- the others stay joined where one leaves
pub IsJoined-without : (clients : List ℕ) (client : ℕ) → IsJoined clients → IsJoined (without clients client)
IsJoined-without clients client kept = record { range = list_all-without _ clients client kept.range; once = once-distinct (without clients client) (AreDistinct-without clients client (distinct-once clients kept.once)) }

-- from a client on, the least free one is it, or is further on
step_from : (clients : List ℕ) (client many : ℕ) (b : Bool) → is_joined clients client ≡ b → free_from (suc many) client clients ≡ cond b (free_from many (client + 1) clients) (Some client)
step_from clients client many b p = rw p refl

pub free_further : (clients : List ℕ) (client : ℕ) → client < 17 → is_joined clients client ≡ true → free_from (17 - client) client clients ≡ free_from (17 - (client + 1)) (client + 1) clients
free_further clients client high taken =
    let more : 17 - client ≡ suc (17 - (client + 1)) = omega arith in
    ap (λ many. free_from many client clients) more ∙ step_from clients client (17 - (client + 1)) true taken

-- the members by their clients
pub joined-members : (members : List Member) (client : ℕ) → list_any (λ (member : Member). nat_eq client member.client) members ≡ is_joined (clients_of (rings_of members)) client
joined-members [] client = refl
joined-members (member ∷ members) client = ap (λ (b : Bool). nat_eq client member.client || b) (joined-members members client)

pub length-clients_of : (members : List Member) → length (clients_of (rings_of members)) ≡ length members
length-clients_of [] = refl
length-clients_of (member ∷ members) = ap suc (length-clients_of members)

pub length-rings_of : (members : List Member) → length (rings_of members) ≡ length members
length-rings_of [] = refl
length-rings_of (member ∷ members) = ap suc (length-rings_of members)

pub rings-push : (members : List Member) (member : Member) → rings_of (members ++ member ∷ []) ≡ rings_of members ++ ring_of_member member ∷ []
rings-push [] member = refl
rings-push (first ∷ members) member = ap (λ (rings : List Ring). ring_of_member first ∷ rings) (rings-push members member)

pub clients-push : (rings : List Ring) (ring : Ring) → clients_of (rings ++ ring ∷ []) ≡ clients_of rings ++ ring.client ∷ []
clients-push [] ring = refl
clients-push (first ∷ rings) ring = ap (λ (clients : List ℕ). first.client ∷ clients) (clients-push rings ring)

-- the others' members, rings and clients
pub rings-filter : (client : ℕ) (members : List Member) → rings_of (filter (λ (member : Member). not (nat_eq client member.client)) members) ≡ filter (λ (ring : Ring). not (nat_eq client ring.client)) (rings_of members)
rings-filter client [] = refl
rings-filter client (member ∷ members) = by (rings-filter client members) (nat_eq client member.client)
  where
    by : rings_of (filter (λ (m : Member). not (nat_eq client m.client)) members) ≡ filter (λ (ring : Ring). not (nat_eq client ring.client)) (rings_of members) → (b : Bool) → rings_of (cond (not b) (member ∷ filter (λ (m : Member). not (nat_eq client m.client)) members) (filter (λ (m : Member). not (nat_eq client m.client)) members)) ≡ cond (not b) (ring_of_member member ∷ filter (λ (ring : Ring). not (nat_eq client ring.client)) (rings_of members)) (filter (λ (ring : Ring). not (nat_eq client ring.client)) (rings_of members))
    by rest true = rest
    by rest false = ap (λ (rings : List Ring). ring_of_member member ∷ rings) rest

pub clients-filter : (client : ℕ) (rings : List Ring) → clients_of (filter (λ (ring : Ring). not (nat_eq client ring.client)) rings) ≡ filter (λ other. not (nat_eq client other)) (clients_of rings)
clients-filter client [] = refl
clients-filter client (ring ∷ rings) = by (clients-filter client rings) (nat_eq client ring.client)
  where
    by : clients_of (filter (λ (r : Ring). not (nat_eq client r.client)) rings) ≡ filter (λ other. not (nat_eq client other)) (clients_of rings) → (b : Bool) → clients_of (cond (not b) (ring ∷ filter (λ (r : Ring). not (nat_eq client r.client)) rings) (filter (λ (r : Ring). not (nat_eq client r.client)) rings)) ≡ cond (not b) (ring.client ∷ filter (λ other. not (nat_eq client other)) (clients_of rings)) (filter (λ other. not (nat_eq client other)) (clients_of rings))
    by rest true = rest
    by rest false = ap (λ (clients : List ℕ). ring.client ∷ clients) rest

-- a ring that changes keeps its client
pub clients-with_ring : (client : ℕ) (change : RingState → RingState) (rings : List Ring) → clients_of (with_ring client change rings) ≡ clients_of rings
clients-with_ring client change [] = refl
clients-with_ring client change (ring ∷ rings) = ap₂ (λ (c : ℕ) (rest : List ℕ). c ∷ rest) (by (nat_eq client ring.client)) (clients-with_ring client change rings)
  where
    by : (b : Bool) → (cond b (record ring { events = change ring.events }) ring).client ≡ ring.client
    by true = refl
    by false = refl

-- where a client isn't there, no ring changes
pub with_ring-absent : (client : ℕ) (change : RingState → RingState) (rings : List Ring) → is_joined (clients_of rings) client ≡ false → with_ring client change rings ≡ rings
with_ring-absent client change [] absent = refl
with_ring-absent client change (ring ∷ rings) absent =
    let parts = or_parts (nat_eq client ring.client) (is_joined (clients_of rings) client) absent in
    rw (parts.0, with_ring-absent client change rings parts.1) refl

-- the member with that index is the client's, and the only one
pub rings-set : (members : List Member) (index : ℕ) (member : Member) (client : ℕ) (change : RingState → RingState) → AreConnectedOnce (clients_of (rings_of members)) → slice_get members index ≡ Some member → member.client ≡ client → rings_of (slice_set members index (record member { events = change member.events })) ≡ with_ring client change (rings_of members)
rings-set [] index member client change once there own = absurd (cc)
rings-set (first ∷ members) zero member client change once there own =
    let same : first ≡ member = cc in
    let here : nat_eq client first.client ≡ true = ap (nat_eq client) (ap (λ (m : Member). m.client) same ∙ own) ∙ nat_eq_equiv.refl client in
    let absent : is_joined (clients_of (rings_of members)) client ≡ false = ap (is_joined (clients_of (rings_of members))) (sym (ap (λ (m : Member). m.client) same ∙ own)) ∙ once.0 in
    rw (here, with_ring-absent client change (rings_of members) absent) (ap (λ (m : Member). ring_of_member (record m { events = change m.events }) ∷ rings_of members) (sym same))
rings-set (first ∷ members) (suc index) member client change once there own =
    let other : nat_eq client first.client ≡ false = by (nat_eq client first.client) refl in
    rw other (ap (λ (rings : List Ring). ring_of_member first ∷ rings) (rings-set members index member client change once.1 there own))
  where
    by : (b : Bool) → nat_eq client first.client ≡ b → nat_eq client first.client ≡ false
    by false q = q
    by true q =
        let among : is_joined (clients_of (rings_of members)) first.client ≡ true =
        sym (joined-members members first.client) ∙ any_at (λ (m : Member). nat_eq first.client m.client) members index member there (ap₂ nat_eq (sym (eqb-true client first.client q)) own ∙ nat_eq_equiv.refl client) in
        absurd (true≢false (sym among ∙ once.0))

-- and what is kept for it is the client's ring
pub ring-found : (members : List Member) (index : ℕ) (member : Member) (client : ℕ) → AreConnectedOnce (clients_of (rings_of members)) → slice_get members index ≡ Some member → member.client ≡ client → ring_of (rings_of members) client ≡ member.events
ring-found [] index member client once there own = absurd (cc)
ring-found (first ∷ members) zero member client once there own =
    let same : first ≡ member = cc in
    let here : nat_eq client first.client ≡ true = ap (nat_eq client) (ap (λ (m : Member). m.client) same ∙ own) ∙ nat_eq_equiv.refl client in
    rw here (ap (λ (m : Member). m.events) same)
ring-found (first ∷ members) (suc index) member client once there own =
    let other : nat_eq client first.client ≡ false = by (nat_eq client first.client) refl in
    rw other (ring-found members index member client once.1 there own)
  where
    by : (b : Bool) → nat_eq client first.client ≡ b → nat_eq client first.client ≡ false
    by false q = q
    by true q =
        let among : is_joined (clients_of (rings_of members)) first.client ≡ true =
        sym (joined-members members first.client) ∙ any_at (λ (m : Member). nat_eq first.client m.client) members index member there (ap₂ nat_eq (sym (eqb-true client first.client q)) own ∙ nat_eq_equiv.refl client) in
        absurd (true≢false (sym among ∙ once.0))

pub IsJoined-others : (rings : List Ring) (client : ℕ) → IsJoined (clients_of rings) → IsJoined (clients_of (filter (λ (ring : Ring). not (nat_eq client ring.client)) rings))
IsJoined-others rings client kept = subst IsJoined (sym (clients-filter client rings ∙ sym (without-filter (clients_of rings) client))) (IsJoined-without (clients_of rings) client kept)

-- one that no member is isn't there
pub joined-nowhere : (members : List Member) (client : ℕ) → ((k : ℕ) (d : Member) → k < length members → (get_or members k d).client ≡ client → ⊥) → is_joined (clients_of (rings_of members)) client ≡ false
joined-nowhere [] client none = refl
joined-nowhere (member ∷ members) client none =
    or_from _ _ (ne_eqb client member.client (λ e. none 0 member (omega arith) (sym e))) (joined-nowhere members client (λ k d short. none (suc k) d (omega (arith, short))))

-- the member of that index is the client's
pub member-at : (members : List Member) (index : ℕ) (client : ℕ) → option_map (λ (member : Member). member.client) (slice_get members index) ≡ Some client → (member : Member) × (slice_get members index ≡ Some member) × (member.client ≡ client)
member-at members index client h = by (slice_get members index) refl h
  where
    by : (o : Option Member) → slice_get members index ≡ o → option_map (λ (member : Member). member.client) o ≡ Some client → (member : Member) × (slice_get members index ≡ Some member) × (member.client ≡ client)
    by None p h = absurd (cc)
    by (Some member) p h = (member, p, cc)

index-within : (members : List Member) (index : ℕ) (member : Member) → slice_get members index ≡ Some member → index < length members
index-within [] index member there = absurd (cc)
index-within (first ∷ members) zero member there = omega arith
index-within (first ∷ members) (suc index) member there = omega (arith, index-within members index member there)

pub found-within : (members : List Member) (index client : ℕ) → option_map (λ (member : Member). member.client) (slice_get members index) ≡ Some client → index < length members
found-within members index client found =
    let at = member-at members index client found in
    index-within members index at.0 at.1

index-read : (members : List Member) (index : ℕ) (member d : Member) → slice_get members index ≡ Some member → slice_index_or members index d ≡ member
index-read [] index member d there = absurd (cc)
index-read (first ∷ members) zero member d there = let same : first ≡ member = cc in same
index-read (first ∷ members) (suc index) member d there = index-read members index member d there

-- the member that is lent is the client's
module _ (members : List Member) (index client : ℕ) (got : Member) (once : AreConnectedOnce (clients_of (rings_of members))) (found : option_map (λ (member : Member). member.client) (slice_get members index) ≡ Some client) (lent : got ≡ slice_index_or members index got) where
  at : (member : Member) × (slice_get members index ≡ Some member) × (member.client ≡ client)
  at = member-at members index client found

  same : got ≡ at.0
  same = lent ∙ index-read members index at.0 got at.1

  pub answer-found : ring_of (rings_of members) client ≡ got.events
  answer-found = ring-found members index at.0 client once at.1 at.2 ∙ ap (λ (m : Member). m.events) (sym same)

  pub rings-found : (events : RingState) (change : RingState → RingState) → events ≡ change got.events → rings_of (slice_set members index (record { client = got.client; events = events })) ≡ with_ring client change (rings_of members)
  rings-found events change is =
      ap₂ (λ (m : Member) (e : RingState). let set : Member = record { client = m.client; events = e } in rings_of (slice_set members index set)) same (is ∙ ap (λ (m : Member). change m.events) same)
      ∙ rings-set members index at.0 client change once at.1 at.2

pub free-here : (clients : List ℕ) (client : ℕ) → client < 17 → is_joined clients client ≡ false → free_from (17 - client) client clients ≡ Some client
free-here clients client high free =
    let more : 17 - client ≡ suc (17 - (client + 1)) = omega arith in
    ap (λ many. free_from many client clients) more ∙ step_from clients client (17 - (client + 1)) false free

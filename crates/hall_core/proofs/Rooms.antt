-- There is room for the kept entries and for the bytes that came with them.
use Rattle.std.proofs.Common.{◌≡◌, ◌⊎◌, ℕ, ◌+◌, ◌≤◌, ◌<◌, inl, inr, Bool, true, false, not, ◌||◌, nat_le, nat_lt, nat_eq, cond, List, [], ◌∷◌, ◌++◌, length, refl, sym, ap, ◌∙◌, subst, arith, length-append}
use Rattle.std.proofs.lemmas.Bool.{or_parts, true≢false, false_from_ne_true, leb-true, le-leb}
use Rattle.std.specs.List.{list_any, filter, sum_by}
use Rattle.std.proofs.lemmas.List.Sums.{sum_by-cons}
use Rattle.cmd_words.specs.declared.replies.Reply.{Reply}
use Rattle.desk_model.specs.Desk.{Desk, is_connected}
use Rattle.desk_model.specs.DeskFacts.{IsDesk}
use Rattle.desk_model.specs.Clients.{step_bye}
use Rattle.desk_model.specs.LetGo.{let_go}
use Rattle.desk_core.specs.ClientList.{IsJoined}
use Rattle.desk_core.proofs.ClientLists.{at_most_16}
use Rattle.machine_model.specs.State.{State, IsState}
use Rattle.machine_model.specs.Step.{Step}
use Rattle.machine_model.specs.Events.Answer.{Replied, Drawn, Counted, Seen, Dumped}
use Rattle.machine_model.specs.Events as machine
use Rattle.hall_core.specs.declared.entry.Entry.{Entry}
use Rattle.hall_core.specs.declared.entry.Event.{Event}
use Rattle.hall_core.specs.declared.entry.Event.TheVariants.{Hello, Ask, Bye, Feed, Tick}
use Rattle.hall_core.specs.declared.entry.Answer.TheVariants.{Reply as ReplySo, Drew as DrewSo}
use Rattle.hall_core.specs.Entries.{event_of, answer_of, payload_of, IsAsked}
use Rattle.hall_core.specs.Books.{BookState, must_fold, is_leaving, payloads_of, HasRoom, HasRoomFor, Unfolded, MadeRoom, KeptAs, Folded, folded_of}

pub few_clients : (desk : Desk) → IsDesk desk → length desk.clients ≤ 16
few_clients desk is = at_most_16 desk.clients (record { range = is.clients; once = is.connected_once })

-- what stays of a list without one is no longer, and is shorter where it was there
not_longer : (client : ℕ) (clients : List ℕ) → length (filter (λ other. not (nat_eq client other)) clients) ≤ length clients
not_longer client [] = omega arith
not_longer client (c ∷ clients) = by (not_longer client clients) (nat_eq client c) refl
  where
    by : length (filter (λ other. not (nat_eq client other)) clients) ≤ length clients → (same : Bool) → nat_eq client c ≡ same → length (filter (λ other. not (nat_eq client other)) (c ∷ clients)) ≤ length (c ∷ clients)
    by rest true e = rw e (omega (arith, rest))
    by rest false e = rw e (omega (arith, rest))

shorter : (client : ℕ) (clients : List ℕ) → list_any (nat_eq client) clients ≡ true → length (filter (λ other. not (nat_eq client other)) clients) + 1 ≤ length clients
shorter client [] there = absurd (true≢false (sym there))
shorter client (c ∷ clients) there = by (not_longer client clients) (shorter client clients) (nat_eq client c) refl
  where
    by : length (filter (λ other. not (nat_eq client other)) clients) ≤ length clients → (list_any (nat_eq client) clients ≡ true → length (filter (λ other. not (nat_eq client other)) clients) + 1 ≤ length clients) → (same : Bool) → nat_eq client c ≡ same → length (filter (λ other. not (nat_eq client other)) (c ∷ clients)) + 1 ≤ length (c ∷ clients)
    by most rest true e = rw e (omega (arith, most))
    by most rest false e =
        let later : list_any (nat_eq client) clients ≡ true = ap (λ b. b || list_any (nat_eq client) clients) (sym e) ∙ there in
        let less = rest later in
        rw e (omega (arith, less))

-- a connected client that leaves is gone
left_fewer : (desk : Desk) (client : ℕ) → is_connected desk client ≡ true → length (step_bye desk client).1.clients + 1 ≤ length desk.clients
unfolding step_bye let_go
left_fewer desk client there = let less = shorter client desk.clients there in rw there less

left_step : (old : State) (client : ℕ) (answer : machine.Answer) (new : State) → is_connected old.desk client ≡ true → Step old (machine.Event.Bye client) answer new → length new.desk.clients + 1 ≤ length old.desk.clients
left_step old client (Replied reply) new there s =
    let gone = left_fewer old.desk client there in
    let desk : new.desk ≡ (step_bye old.desk client).1 = s.change.desk in
    subst (λ (d : Desk). length d.clients + 1 ≤ length old.desk.clients) (sym desk) gone
left_step old client (Drawn drew) new there s = elim s [ ]
left_step old client (Counted n) new there s = elim s [ ]
left_step old client (Seen byte) new there s = elim s [ ]
left_step old client (Dumped bytes) new there s = elim s [ ]

-- what it means that a book needn't fold
pub record Fits (book : BookState) (event : Event) : Type 0 where
  pub few : length book.kept < 4096
  pub light : payloads_of book.kept + payload_of event ≤ 67108864

pub fits : (book : BookState) (event : Event) → must_fold book event ≡ false → Fits book event
unfolding must_fold
fits book event needless =
    let parts = or_parts (nat_le 4096 (length book.kept)) (nat_lt 67108864 (payloads_of book.kept + payload_of event)) needless in
    record {
      few = grind (arith, parts.0);
      light = grind (arith, parts.1);
    }

pub payloads_push : (kept : List Entry) (entry : Entry) → payloads_of (kept ++ entry ∷ []) ≡ payloads_of kept + payload_of entry.event
payloads_push [] entry = omega arith
payloads_push (first ∷ kept) entry =
    let rest = payloads_push kept entry in
    let a = sum_by-cons (λ (e : Entry). payload_of e.event) first (kept ++ entry ∷ []) in
    let b = sum_by-cons (λ (e : Entry). payload_of e.event) first kept in
    omega (arith, rest, a, b)

-- after an entry, for which there was room
pub room_entry : (book new : BookState) (entry : Entry) → HasRoom book → IsState new.server.state → HasRoomFor book entry.event → Step book.server.state (event_of entry.event) (answer_of entry.answer) new.server.state → Unfolded book entry new → HasRoom new
room_entry book new entry room is for_it step kept =
    let many : length new.kept ≡ length book.kept + 1 = ap length kept.kept ∙ length-append book.kept (entry ∷ []) in
    let bytes : payloads_of new.kept ≡ payloads_of book.kept + payload_of entry.event = ap payloads_of kept.kept ∙ payloads_push book.kept entry in
    let clients = few_clients new.server.state.desk is.desk in
    by entry.event refl for_it many bytes clients
  where
    roomy : (event : Event) → Fits book event → length new.kept ≡ length book.kept + 1 → payloads_of new.kept ≡ payloads_of book.kept + payload_of event → length new.server.state.desk.clients ≤ 16 → HasRoom new
    roomy event here many bytes clients =
        record { few = omega (arith, here.few, many, clients); light = omega (arith, here.light, bytes) }

    by : (event : Event) → entry.event ≡ event → HasRoomFor book event → length new.kept ≡ length book.kept + 1 → payloads_of new.kept ≡ payloads_of book.kept + payload_of event → length new.server.state.desk.clients ≤ 16 → HasRoom new
    by event e (inl needless) many bytes clients = roomy event (fits book event needless) many bytes clients
    by (Bye client) e (inr leaving) many bytes clients =
        let fewer = left_step book.server.state client (answer_of entry.answer) new.server.state leaving (subst (λ (event : Event). Step book.server.state (event_of event) (answer_of entry.answer) new.server.state) e step) in
        let before = room.few in
        let light = room.light in
        record { few = omega (arith, before, fewer, many); light = omega (arith, light, bytes) }
    by Hello e (inr leaving) many bytes clients = absurd (true≢false (sym leaving))
    by (Ask client command payload) e (inr leaving) many bytes clients = absurd (true≢false (sym leaving))
    by (Feed input) e (inr leaving) many bytes clients = absurd (true≢false (sym leaving))
    by Tick e (inr leaving) many bytes clients = absurd (true≢false (sym leaving))

some_there : (client : ℕ) (clients : List ℕ) → list_any (nat_eq client) clients ≡ true → 1 ≤ length clients
some_there client [] there = absurd (true≢false (sym there))
some_there client (c ∷ clients) there = omega arith

-- one more entry can be kept
pub room_for_one : (book : BookState) (event : Event) → HasRoom book → HasRoomFor book event → length book.kept < 4112
room_for_one book event room (inl needless) = let here = fits book event needless in let few = here.few in omega (arith, few)
room_for_one book (Bye client) room (inr leaving) =
    let some = some_there client book.server.state.desk.clients leaving in
    let few = room.few in
    omega (arith, some, few)
room_for_one book Hello room (inr leaving) = absurd (true≢false (sym leaving))
room_for_one book (Ask client command payload) room (inr leaving) = absurd (true≢false (sym leaving))
room_for_one book (Feed input) room (inr leaving) = absurd (true≢false (sym leaving))
room_for_one book Tick room (inr leaving) = absurd (true≢false (sym leaving))

pub room_folded : (book : BookState) → HasRoom book → IsState book.server.state → HasRoom (folded_of book)
room_folded book room is =
    let clients = few_clients book.server.state.desk is.desk in
    record { few = omega (arith, clients); light = omega arith }

-- a folded book has room for any event
pub fits_folded : (book : BookState) (event : Event) → payload_of event ≤ 67108864 → must_fold (folded_of book) event ≡ false
unfolding must_fold
fits_folded book event few = false_from_ne_true (nat_lt 67108864 (0 + payload_of event)) (λ more. absurd (grind (arith, more, few)))

pub few_bytes : (event : Event) → IsAsked event → payload_of event ≤ 67108864
few_bytes Hello asked = omega arith
few_bytes (Ask client command payload) asked = let few = asked.1.few in omega (arith, few)
few_bytes (Bye client) asked = omega arith
few_bytes (Feed input) asked = omega arith
few_bytes Tick asked = omega arith

folded_so : (old mid new : BookState) (entry : Entry) → mid ≡ folded_of old → Unfolded mid entry new → Folded old entry new
folded_so old mid new entry same kept =
    let here = subst (λ b. Unfolded b entry new) same kept in
    record { start = here.start; base = here.base; kept = here.kept }

-- how the entry is kept, by how room was made for it
pub kept_as : (must leaving : Bool) (old mid new : BookState) (entry : Entry) → MadeRoom must leaving old mid → Unfolded mid entry new → KeptAs must leaving old entry new
kept_as false leaving old mid new entry same kept = subst (λ b. Unfolded b entry new) same kept
kept_as true false old mid new entry same kept = folded_so old mid new entry same kept
kept_as true true old mid new entry (inl same) kept = inl (folded_so old mid new entry same kept)
kept_as true true old mid new entry (inr same) kept = inr (subst (λ b. Unfolded b entry new) same kept)

pub same_server : (must leaving : Bool) (old mid : BookState) → MadeRoom must leaving old mid → (mid.server ≡ old.server) × (mid.journal ≡ old.journal)
same_server false leaving old mid same = (ap (λ (b : BookState). b.server) same, ap (λ (b : BookState). b.journal) same)
same_server true false old mid same = (ap (λ (b : BookState). b.server) same, ap (λ (b : BookState). b.journal) same)
same_server true true old mid (inl same) = (ap (λ (b : BookState). b.server) same, ap (λ (b : BookState). b.journal) same)
same_server true true old mid (inr same) = (ap (λ (b : BookState). b.server) same, ap (λ (b : BookState). b.journal) same)

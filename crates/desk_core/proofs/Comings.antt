-- A client comes: the desk then, and what its parts keep.
use Rattle.std.proofs.Common.{◌≡◌, ℕ, true, false, not, nat_eq, List, [], ◌∷◌, ◌++◌, Result, Ok, Err, OnOk, OnErr, refl, sym, ap, ap₂, ◌∙◌, subst}
use Rattle.std.specs.List.{filter}
use Rattle.std.specs.Cmp.{nat_eq_equiv}
use Rattle.std.proofs.lemmas.Bool.{or_parts}
use Rattle.kind_core.specs.declared.shapes.Shape.{Shape}
use Rattle.bind_core.specs.Ring.{RingState, new_ring}
use Rattle.admit_core.specs.Roster.{RosterState}
use Rattle.cmd_words.specs.declared.replies.Reply.{Reply}
use Rattle.widget_model.specs.Widgets.{Widgets, joined}
use Rattle.widget_model.specs.Clients.{is_joined, is_client}
use Rattle.widget_model.specs.Forest.{IsWidgets}
use Rattle.tree_core.specs.declared.pointer.Pointer.{Pointer}
use Rattle.desk_model.specs.Desk.{Desk, Ring, is_connected}
use Rattle.desk_model.specs.DeskFacts.{IsDesk}
use Rattle.desk_model.specs.Clients.{with_client}
use Rattle.desk_model.proofs.Desks.{IsDesk-connect}
use Rattle.desk_layout.specs.Placed.{HaveDuePlaces}
use Rattle.desk_commands.specs.Parts.{stage_of, desk_of, AreParts, ListsAdmitted}
use Rattle.desk_commands.specs.Pointer.{HoldsLive}
use Rattle.desk_core.specs.Kept.{IsKept}
use Rattle.desk_core.specs.ClientList.{clients_of, ring_for}
use Rattle.desk_core.proofs.CallSteps.{connect-joined}

-- a client joins: the rows and the open windows stay
AreParts-joined : (clients now : List ℕ) (old new : Widgets) (client : ℕ) (keys : List ℕ) → AreParts clients old keys → IsWidgets new → new ≡ joined client old → now ≡ clients ++ client ∷ [] → AreParts now new keys
AreParts-joined clients now old new client keys kept tree left added =
    let same : new.entries ≡ old.entries = ap (λ (w : Widgets). w.entries) left in
    record {
      clients = added ∙ ap (λ (cs : List ℕ). cs ++ client ∷ []) kept.clients ∙ sym (ap (λ (w : Widgets). w.clients) left);
      tree = tree;
      stack = kept.stack;
      windows = rw same kept.windows;
    }

joined-held : (pointer : Pointer) (w new : Widgets) (client : ℕ) → new ≡ joined client w → HoldsLive w.entries pointer → HoldsLive new.entries pointer
joined-held pointer w new client left held = subst (λ (v : Widgets). HoldsLive v.entries pointer) (sym left) held

joined-placed : (w new : Widgets) (client : ℕ) → new ≡ joined client w → HaveDuePlaces w → HaveDuePlaces new
joined-placed w new client left placed = subst HaveDuePlaces (sym left) (record { each = λ id row there. placed.each id row there })

pub added_new : (rings now : List Ring) (client : ℕ) (events : RingState) → events ≡ new_ring → now ≡ rings ++ record { client = client; events = events } ∷ [] → now ≡ rings ++ ring_for client ∷ []
added_new rings now client events fresh added = added ∙ ap (λ (e : RingState). let r : Ring = record { client = client; events = e } in rings ++ r ∷ []) fresh

-- one that came and leaves again leaves the rings as they were
pub joined-again : (rings now left : List Ring) (client : ℕ) (events : RingState) → is_joined (clients_of rings) client ≡ false → now ≡ rings ++ record { client = client; events = events } ∷ [] → left ≡ filter (λ ring. not (nat_eq client ring.client)) now → left ≡ rings
joined-again rings now left client events absent added gone = gone ∙ ap (filter (λ (ring : Ring). not (nat_eq client ring.client))) added ∙ by rings absent
  where
    by : (rs : List Ring) → is_joined (clients_of rs) client ≡ false → filter (λ (ring : Ring). not (nat_eq client ring.client)) (rs ++ record { client = client; events = events } ∷ []) ≡ rs
    by [] none = rw (nat_eq_equiv.refl client) refl
    by (r ∷ rs) none =
        let parts = or_parts (nat_eq client r.client) (is_joined (clients_of rs) client) none in
        rw parts.0 (ap (λ (rest : List Ring). r ∷ rest) (by rs parts.1))

rings-added : (rings now : List Ring) (client : ℕ) → now ≡ rings ++ ring_for client ∷ [] → clients_of now ≡ clients_of rings ++ client ∷ []
rings-added rings now client added = ap clients_of added ∙ by rings
  where
    by : (rs : List Ring) → clients_of (rs ++ ring_for client ∷ []) ≡ clients_of rs ++ client ∷ []
    by [] = refl
    by (r ∷ rs) = ap (λ (cs : List ℕ). r.client ∷ cs) (by rs)

-- a client comes, where there is memory for it: the desk, and what its parts keep
module _ (shape : Shape) (pointer : Pointer) (rings now : List Ring) (w new : Widgets) (keys : List ℕ) (roster : RosterState) (client : ℕ) where
  abbrev unjoined : Desk
  unjoined = desk_of (stage_of shape roster rings w pointer) w keys

  abbrev joined_now : Desk
  joined_now = desk_of (stage_of shape roster now new pointer) new keys

  abbrev HasCome : Type 0
  HasCome = (now ≡ rings ++ ring_for client ∷ []) × (new ≡ joined client w)

  abbrev HasStayed : Type 0
  HasStayed = (now ≡ rings) × (new ≡ w)

  came-desk : HasCome → joined_now ≡ with_client client unjoined
  came-desk come = ap₂ (λ (v : Widgets) (rs : List Ring). desk_of (stage_of shape roster rs v pointer) v keys) come.1 come.0

  came-kept : HasCome → IsKept shape pointer rings w keys roster → IsWidgets new → is_client client ≡ true → is_connected unjoined client ≡ false → IsKept shape pointer now new keys roster
  came-kept come kept tree range absent =
      record {
        parts = AreParts-joined (clients_of rings) (clients_of now) w new client keys kept.parts tree come.1 (rings-added rings now client come.0);
        held = joined-held pointer w new client come.1 kept.held;
        limit = kept.limit;
        listed = subst (λ (v : Widgets). ListsAdmitted v.entries roster) (sym come.1) kept.listed;
        placed = joined-placed w new client come.1 kept.placed;
        across = kept.across;
        down = kept.down;
        desk = subst IsDesk (sym (came-desk come ∙ ap (λ (done : Reply × Desk). done.1) (connect-joined unjoined client kept.desk.held absent))) (IsDesk-connect unjoined client false range kept.desk);
      }

  stayed-kept : HasStayed → IsKept shape pointer rings w keys roster → IsKept shape pointer now new keys roster
  stayed-kept same kept =
      let P : List Ring → Type 0 = λ rs. IsKept shape pointer rs new keys roster in
      let Q : Widgets → Type 0 = λ v. IsKept shape pointer rings v keys roster in
      subst P (sym same.0) (subst Q (sym same.1) kept)

  pub let_in-kept : {T E : Type 0} (result : Result T E) → OnOk result HasCome → OnErr result HasStayed → IsKept shape pointer rings w keys roster → IsWidgets new → is_client client ≡ true → is_connected unjoined client ≡ false → IsKept shape pointer now new keys roster
  let_in-kept (Ok x) come stay kept tree range absent = came-kept come kept tree range absent
  let_in-kept (Err e) come stay kept tree range absent = stayed-kept stay kept

  pub let_in-entries : {T E : Type 0} (result : Result T E) → OnOk result HasCome → OnErr result HasStayed → new.entries ≡ w.entries
  let_in-entries (Ok x) come stay = ap (λ (v : Widgets). v.entries) come.1
  let_in-entries (Err e) come stay = ap (λ (v : Widgets). v.entries) stay.1

  pub let_in-ok : {T E : Type 0} (result : Result T E) → OnOk result HasCome → OnOk result (joined_now ≡ with_client client unjoined)
  let_in-ok (Ok x) come = came-desk come
  let_in-ok (Err e) come = tt

  pub let_in-err : {T E : Type 0} (result : Result T E) → OnErr result HasStayed → OnErr result (joined_now ≡ unjoined)
  let_in-err (Ok x) stay = tt
  let_in-err (Err e) stay = ap₂ (λ (v : Widgets) (rs : List Ring). desk_of (stage_of shape roster rs v pointer) v keys) stay.1 stay.0

-- What holds of the connected clients when one more connects, and that the least free number is one of 1 to 16
-- that isn't connected.
use Rattle.std.proofs.Common.{◌≡◌, ◌<◌, ◌≤◌, ℕ, zero, suc, ◌+◌, Bool, true, false, cond, nat_eq, List, [], ◌∷◌, ◌++◌, Some, refl, ◌∙◌, arith}
use Rattle.std.proofs.lemmas.Bool.{and_from, or_parts, or_from, le-leb}
use Rattle.std.proofs.lemmas.List.Folds.{list_all-append, list_any-append}
use Rattle.std.specs.Cmp.{nat_eq_equiv}
use Rattle.widget_model.specs.Clients.{is_joined, is_client}
use Rattle.desk_model.specs.Desk.{Desk, is_connected}
use Rattle.desk_model.specs.Clients.{with_client, free_from, free_client}
use Rattle.desk_model.specs.DeskFacts.{AreConnectedOnce}
use Rattle.widget_model.proofs.NewRows.{AreRows-joined}
use Rattle.desk_model.proofs.Sound.{IsSound}
use Rattle.desk_model.proofs.Rings.{AreRingsOf-push}

pub AreConnectedOnce-push : (clients : List ℕ) (client : ℕ) → AreConnectedOnce clients → is_joined clients client ≡ false → AreConnectedOnce (clients ++ client ∷ [])
AreConnectedOnce-push [] client once new = (refl, tt)
AreConnectedOnce-push (first ∷ clients) client once new =
    let apart = or_parts (nat_eq client first) (is_joined clients client) new in
    let differ : nat_eq first client ≡ false = nat_eq_equiv.symm first client ∙ apart.0 in
    (list_any-append (nat_eq first) clients (client ∷ []) ∙ or_from _ _ once.0 (or_from _ _ differ refl), AreConnectedOnce-push clients client once.1 apart.1)

pub IsSound-with_client : (desk : Desk) (client : ℕ) → IsSound desk → is_client client ≡ true → is_connected desk client ≡ false → IsSound (with_client client desk)
IsSound-with_client desk client sound range new =
    record {
      shape = sound.shape;
      clients = list_all-append is_client desk.clients (client ∷ []) ∙ and_from _ _ sound.clients (and_from _ _ range refl);
      connected_once = AreConnectedOnce-push desk.clients client sound.connected_once new;
      rows = AreRows-joined desk.clients client desk.rows sound.rows;
      by_kind = sound.by_kind;
      roster = sound.roster;
      rings = AreRingsOf-push desk.clients desk.rings client sound.rings;
      windows = sound.windows;
    }

-- a number that can be given to a client
record IsFree (clients : List ℕ) (from many client : ℕ) : Type 0 where
  pub least : from ≤ client
  pub most : client < from + many
  pub new : is_joined clients client ≡ false

free_from-free : (many from : ℕ) (clients : List ℕ) (client : ℕ) → free_from many from clients ≡ Some client → IsFree clients from many client
free_from-free zero from clients client found = absurd (cc)
free_from-free (suc many) from clients client found = by (free_from-free many (from + 1) clients client) (is_joined clients from) refl found
  where
    by : (free_from many (from + 1) clients ≡ Some client → IsFree clients (from + 1) many client) → (b : Bool) → is_joined clients from ≡ b → cond b (free_from many (from + 1) clients) (Some from) ≡ Some client → IsFree clients from (suc many) client
    by rest true taken h = let free = rest h in record { least = omega (arith, free.least); most = omega (arith, free.most); new = free.new }
    by rest false new h = let same : from ≡ client = cc in record { least = omega arith; most = omega arith; new = rw (← same) new }

pub free_client-is_client : (clients : List ℕ) (client : ℕ) → free_client clients ≡ Some client → (is_client client ≡ true) × (is_joined clients client ≡ false)
unfolding free_client
free_client-is_client clients client found =
    let free = free_from-free 16 1 clients client found in
    (and_from _ _ (le-leb 1 client free.least) (le-leb client 16 (omega (arith, free.most))), free.new)

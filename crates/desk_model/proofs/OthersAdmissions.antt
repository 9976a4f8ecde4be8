-- A change of one client's admissions and events leaves the other clients'.
use Rattle.std.proofs.Common.{◌≡◌, ℕ, Bool, true, false, cond, ◌&&◌, not, nat_eq, List, [], ◌∷◌, ◌++◌, refl, sym, ◌∙◌}
use Rattle.std.proofs.lemmas.Bool.{true≢false, eq-eqb}
use Rattle.std.proofs.lemmas.List.{append-nil}
use Rattle.std.proofs.lemmas.List.Elements.{filter-append}
use Rattle.std.specs.List.{filter}
use Rattle.std.specs.Str.{bytes_eq}
use Rattle.bind_core.specs.Ring.{RingState}
use Rattle.desk_model.specs.Desk.{Admission, Ring, is_admission}
use Rattle.desk_model.specs.Screens.{other_admissions}
use Rattle.desk_model.specs.Polling.{with_ring}
use Rattle.desk_model.specs.OwnPart.{admissions_of_others}
use Rattle.desk_model.proofs.OthersRows.{filter-within}

pub admissions_of_others-without : (client : ℕ) (name : List ℕ) (roster : List Admission) → admissions_of_others client (other_admissions client name roster) ≡ admissions_of_others client roster
admissions_of_others-without client name roster = filter-within (λ (admission : Admission). not (is_admission client name admission)) (λ (admission : Admission). not (nat_eq client admission.client)) wider roster
  where
    wider : (admission : Admission) → not (nat_eq client admission.client) ≡ true → not (is_admission client name admission) ≡ true
    wider admission other = by (nat_eq client admission.client) other
      where
        by : (b : Bool) → not b ≡ true → not (b && bytes_eq name admission.name) ≡ true
        by false e = refl
        by true e = absurd (true≢false (sym e))

-- the client's own one put last
own_last : {X : Type 0} (owner : X → ℕ) (client : ℕ) (xs : List X) (x : X) → owner x ≡ client → filter (λ x. not (nat_eq client (owner x))) (xs ++ x ∷ []) ≡ filter (λ x. not (nat_eq client (owner x))) xs
own_last owner client xs x own =
    filter-append (λ x. not (nat_eq client (owner x))) xs (x ∷ []) ∙ rw (eq-eqb client (owner x) (sym own)) (append-nil (filter (λ x. not (nat_eq client (owner x))) xs))

pub admissions_of_others-push : (client : ℕ) (roster : List Admission) (admission : Admission) → admission.client ≡ client → admissions_of_others client (roster ++ admission ∷ []) ≡ admissions_of_others client roster
admissions_of_others-push client roster admission own = own_last (λ (admission : Admission). admission.client) client roster admission own

abbrev pub rings_of_others : ℕ → List Ring → List Ring
rings_of_others client rings = filter (λ ring. not (nat_eq client ring.client)) rings

pub rings_of_others-push : (client : ℕ) (rings : List Ring) (ring : Ring) → ring.client ≡ client → rings_of_others client (rings ++ ring ∷ []) ≡ rings_of_others client rings
rings_of_others-push client rings ring own = own_last (λ (ring : Ring). ring.client) client rings ring own

pub rings_of_others-with_ring : (client : ℕ) (change : RingState → RingState) (rings : List Ring) → rings_of_others client (with_ring client change rings) ≡ rings_of_others client rings
rings_of_others-with_ring client change [] = refl
rings_of_others-with_ring client change (ring ∷ rings) = by (rings_of_others-with_ring client change rings) (nat_eq client ring.client) refl
  where
    by : rings_of_others client (with_ring client change rings) ≡ rings_of_others client rings → (own : Bool) → nat_eq client ring.client ≡ own
        → rings_of_others client (cond own (record ring { events = change ring.events }) ring ∷ with_ring client change rings) ≡ cond (not own) (ring ∷ rings_of_others client rings) (rings_of_others client rings)
    by rest true e = rw (e, rest) refl
    by rest false e = rw (e, rest) refl

-- Who is inside, before and after a step.
use Rattle.std.proofs.Common.{◌≡◌, ℕ, ◌+◌, ◌≤◌, List, [], ◌∷◌, set, sym, ap, ◌∙◌, subst, arith, inl, inr, ⊎_elim}
use Rattle.std.specs.Prelude.{true, false, Bool, nat_eq}
use Rattle.std.specs.List.{All}
use Rattle.std.proofs.lemmas.List.Elements.{All-set, All-weaker, All-head, All-tail}
use mathlib.Core.Option.{none, some}
use mathlib.Core.Option as maybe
use Rattle.std.specs.Prelude.{Option}
use lib.ListN.{get_elem?}
use Rattle.turnstile.specs.declared.view.Part.{Part}
use Rattle.turnstile.specs.declared.view.View.{View}
use Rattle.turnstile.specs.declared.view.Stage.{Stage}
use Rattle.turnstile.specs.declared.view.Stage.TheVariants.{Spent, Out, Waits, Inside}
use Rattle.turnstile.specs.Views.{at_stage}
use Rattle.turnstile.specs.Tickets.{total, once, holds_ticket, Tickets}
use Rattle.turnstile.specs.Turns.{is_inside, AtHome, Away, Turns, HasTurn}
use Rattle.turnstile.proofs.Totals.{total-set}
use Rattle.turnstile.proofs.TicketSteps.{own_once}

pub most_once : (b : Bool) → once b ≤ 1
most_once true = omega arith
most_once false = omega arith

module _ {X : Type 0} where
  pub total_le_where : (f g : X → ℕ) (xs : List X) → All (λ x. f x ≤ g x) xs → total f xs ≤ total g xs
  total_le_where f g [] le = omega arith
  total_le_where f g (x ∷ xs) le = let h : f x ≤ g x = All-head (λ (y : X). f y ≤ g y) x xs le in omega (arith, total_le_where f g xs (All-tail (λ (y : X). f y ≤ g y) x xs le))

module _ {E : Type 0} where
  inside_holds : (turn : ℕ) (history : List E) (stage : Stage) (own : Part E) → HasTurn turn history stage own → is_inside stage ≤ holds_ticket turn stage
  inside_holds turn history Spent own h = omega arith
  inside_holds turn history Out own h = omega arith
  inside_holds turn history (Waits t) own h = omega arith
  inside_holds turn history (Inside t) own h = let e : t ≡ turn = h.0 in let o : once (nat_eq turn t) ≡ 1 = ap (λ (k : ℕ). once (nat_eq turn k)) e ∙ own_once turn in omega arith

  -- who isn't inside needs no turn
  pub turn_free : (turn turn' : ℕ) (history history' : List E) (stage : Stage) (own : Part E) → is_inside stage ≡ 0 → HasTurn turn history stage own → HasTurn turn' history' stage own
  turn_free turn turn' history history' Spent own z h = tt
  turn_free turn turn' history history' Out own z h = tt
  turn_free turn turn' history history' (Waits t) own z h = tt
  turn_free turn turn' history history' (Inside t) own z h = absurd (omega arith)

  -- while one that waits has the turn, nobody is inside
  pub nobody_inside : (next turn : ℕ) (history : List E) (views : List (View E)) (id : ℕ) (v : View E) → get_elem? views id ≡ some (at_stage (Waits turn) v)
      → Tickets next turn views → All (λ u. HasTurn turn history u.stage u.own) views → total (λ u. is_inside u.stage) views ≡ 0
  nobody_inside next turn history views id v at r turns =
      let views' = set views id (at_stage Out v) in
      let s : total (λ (u : View E). is_inside u.stage) views' + 0 ≡ total (λ (u : View E). is_inside u.stage) views + 0 = total-set (λ (u : View E). is_inside u.stage) views id (at_stage (Waits turn) v) (at_stage Out v) at in
      let h : total (λ (u : View E). holds_ticket turn u.stage) views' + once (nat_eq turn turn) ≡ total (λ (u : View E). holds_ticket turn u.stage) views + 0 = total-set (λ (u : View E). holds_ticket turn u.stage) views id (at_stage (Waits turn) v) (at_stage Out v) at in
      let l : total (λ (u : View E). is_inside u.stage) views' ≤ total (λ (u : View E). holds_ticket turn u.stage) views' = total_le_where (λ (u : View E). is_inside u.stage) (λ (u : View E). holds_ticket turn u.stage) views'
      (All-set (λ (u : View E). is_inside u.stage ≤ holds_ticket turn u.stage) views id (at_stage Out v) (omega arith)
      (All-weaker (λ (u : View E). HasTurn turn history u.stage u.own) (λ (u : View E). is_inside u.stage ≤ holds_ticket turn u.stage) (λ u had. inside_holds turn history u.stage u.own had) views turns)) in
      let o = own_once turn in
      let m : total (λ (u : View E). holds_ticket turn u.stage) views ≤ 1 = subst (λ (k : ℕ). k ≤ 1) (sym (r.each turn)) (most_once _) in
      omega arith

module _ {A E : Type 0} (entries : A → List E) (history : List E) (homes : List (maybe.Option (Option A))) (views : List (View E)) where
  -- with nobody inside the value is at home
  pub at_home : total (λ u. is_inside u.stage) views ≡ 0 → Turns entries history homes views → AtHome entries history homes views
  at_home z t = ⊎_elim (λ (h : AtHome entries history homes views). h) (λ (h : Away homes views). let o = h.one in absurd (omega arith)) t

  -- with somebody inside the slot is out
  pub is_away : 1 ≤ total (λ u. is_inside u.stage) views → Turns entries history homes views → Away homes views
  is_away z t = ⊎_elim (λ (h : AtHome entries history homes views). let o = h.empty in absurd (omega arith)) (λ (h : Away homes views). h) t

  -- a step after which as many are inside, and the slot is where it was
  pub turns_stay : (views' : List (View E)) → total (λ u. is_inside u.stage) views' ≡ total (λ u. is_inside u.stage) views → Turns entries history homes views → Turns entries history homes views'
  turns_stay views' same t = ⊎_elim
      (λ (h : AtHome entries history homes views). inl record { value = h.value; home = h.home; has = h.has; empty = same ∙ h.empty })
      (λ (h : Away homes views). inr record { home = h.home; one = same ∙ h.one }) t

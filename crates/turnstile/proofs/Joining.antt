-- Splitting a pass off and joining one to another keep the rule.
use Rattle.std.proofs.Common.{◌≡◌, ℕ, List, [], ◌∷◌, ◌++◌, set, refl, sym, ap, ◌∙◌, subst, arith, length-append}
use Rattle.std.specs.Prelude.{Option, nat_eq}
use Rattle.std.proofs.lemmas.List.Elements.{All-set, All-cons, All-head, All-tail, All-nil, All-append, All-push}
use mathlib.Core.Option.{some}
use lib.ListN.{get_elem?}
use Rattle.atomic_table.proofs.Lists.{set_else}
use Rattle.atomic_table.specs.Table.{State, Splits, Joins}
use Rattle.turnstile.specs.declared.view.Part.{Part}
use Rattle.turnstile.specs.declared.view.View.{View}
use Rattle.turnstile.specs.declared.view.Stage.{Stage}
use Rattle.turnstile.specs.declared.view.Stage.TheVariants.{Out}
use Rattle.turnstile.specs.Entries.{Tallies}
use Rattle.turnstile.specs.Views.{at_stage, joint, handed, kept_back, spent}
use Rattle.turnstile.specs.Tickets.{once}
use Rattle.turnstile.specs.Turns.{is_inside}
use Rattle.turnstile.specs.Rule.{Fits, Stands}
use Rattle.turnstile.proofs.Totals.{all_at, total-set, total-append}
use Rattle.turnstile.proofs.TicketSteps.{tickets_stay, tickets_append}
use Rattle.turnstile.proofs.NumberSteps.{numbers_join, numbers_split}
use Rattle.turnstile.proofs.TurnSteps.{turns_stay}

module _ {A E : Type 0} (entries : A → List E) (number : E → ℕ) (made opening : ℕ) where
  -- a pass outside with a second part is split
  abbrev pair : ℕ → ℕ → Part E → List (Part E) → View E
  pair m o own joined = record { made = m; opening = o; stage = Out; own = own; joined = joined }

  pub splits : (id m o : ℕ) (p q : Part E) (ps : List (Part E)) → Splits (Stands entries number made opening) id (pair m o p (q ∷ ps)) (pair m o q ps) (pair m o p [])
  splits id m o p q ps s r at =
      let v = pair m o p (q ∷ ps) in let left = pair m o q ps in let right = pair m o p [] in
      let f = all_at (Fits number made opening r.turn r.history) s.views id (pair m o p (q ∷ ps)) r.fits at in record {
        next = r.next;
        turn = r.turn;
        history = r.history;
        words = r.words;
        tickets = tickets_append r.next r.turn (set s.views id left) right refl (tickets_stay r.next r.turn s.views id v left at (λ t. refl) refl r.tickets);
        numbers = numbers_split number made opening r.history s.views id v left right at (λ n. omega arith) (omega arith) r.numbers;
        turns = turns_stay entries r.history s.homes s.views (set s.views id left ++ right ∷ [])
            (let t = total-set (λ (u : View E). is_inside u.stage) s.views id (pair m o p (q ∷ ps)) (pair m o q ps) at in let z = total-append (λ (u : View E). is_inside u.stage) (set s.views id (pair m o q ps)) (pair m o p [] ∷ []) in omega arith) r.turns;
        fits = All-push (Fits number made opening r.turn r.history) (set s.views id left) right
            (All-set (Fits number made opening r.turn r.history) s.views id left record { knows = f.knows; turn_is = tt; tallies = All-tail (Tallies number opening r.history) p (q ∷ ps) f.tallies } r.fits)
            record { knows = f.knows; turn_is = tt; tallies = All-cons (Tallies number opening r.history) p [] (All-head (Tallies number opening r.history) p (q ∷ ps) f.tallies) (All-nil (Tallies number opening r.history)) };
      }

  joined_two : (s : State (Option A) (View E)) → Stands entries number made opening s → (id other : ℕ) (v w : View E) → get_elem? s.views id ≡ some (at_stage Out v) → get_elem? s.views other ≡ some (at_stage Out w)
      → get_elem? (set s.views id (at_stage Out (joint v w))) other ≡ some (at_stage Out w)
      → Stands entries number made opening record { words = s.words; homes = s.homes; views = set (set s.views id (at_stage Out (joint v w))) other spent }
  joined_two s r id other v w at was there =
      let both = at_stage Out (joint v w) in
      let f = all_at (Fits number made opening r.turn r.history) s.views id (at_stage Out v) r.fits at in
      let g = all_at (Fits number made opening r.turn r.history) s.views other (at_stage Out w) r.fits was in record {
        next = r.next;
        turn = r.turn;
        history = r.history;
        words = r.words;
        tickets = tickets_stay r.next r.turn (set s.views id both) other (at_stage Out w) spent there (λ t. refl) refl (tickets_stay r.next r.turn s.views id (at_stage Out v) both at (λ t. refl) refl r.tickets);
        numbers = numbers_join number made opening r.history s.views id other (at_stage Out v) (at_stage Out w) both spent at there
            (λ n. let z = total-append (λ (p : Part E). once (nat_eq n p.number)) (v.own ∷ v.joined) (w.own ∷ w.joined) in omega arith)
            (let z = length-append (v.own ∷ v.joined) (w.own ∷ w.joined) in omega arith) r.numbers;
        turns = turns_stay entries r.history s.homes s.views (set (set s.views id both) other spent)
            (let t = total-set (λ (u : View E). is_inside u.stage) s.views id (at_stage Out v) (at_stage Out (joint v w)) at in
            let z = total-set (λ (u : View E). is_inside u.stage) (set s.views id (at_stage Out (joint v w))) other (at_stage Out w) spent there in omega arith) r.turns;
        fits = All-set (Fits number made opening r.turn r.history) (set s.views id both) other spent record { knows = tt; turn_is = tt; tallies = All-nil (Tallies number opening r.history) }
            (All-set (Fits number made opening r.turn r.history) s.views id both record { knows = f.knows; turn_is = tt; tallies = All-append (Tallies number opening r.history) (v.own ∷ v.joined) (w.own ∷ w.joined) f.tallies g.tallies } r.fits);
      }

  pub joins : (id other : ℕ) (v w : View E) → v.stage ≡ Out → w.stage ≡ Out → Joins (Stands entries number made opening) id v other w (joint v w) spent
  joins id other v w out outside s r at apart there =
      let was : get_elem? s.views other ≡ some w = sym (set_else s.views id other (joint v w) apart) ∙ there in
      subst (λ (z : Stage). Stands entries number made opening record { words = s.words; homes = s.homes; views = set (set s.views id (at_stage z (joint v w))) other spent }) (sym out)
      (joined_two s r id other v w (at ∙ ap (λ z. some (at_stage z v)) out) (was ∙ ap (λ z. some (at_stage z w)) outside)
      (subst (λ (z : Stage). get_elem? (set s.views id (at_stage z (joint v w))) other ≡ some w) out there ∙ ap (λ z. some (at_stage z w)) outside))

  pub splits_view : (id : ℕ) (v : View E) (q : Part E) (ps : List (Part E)) → v.stage ≡ Out → v.joined ≡ q ∷ ps → Splits (Stands entries number made opening) id v (kept_back v) (handed v)
  splits_view id v q ps out two =
      subst (λ (z : Stage × List (Part E)). let u : View E = record v { stage = z.0; joined = z.1 } in Splits (Stands entries number made opening) id u (kept_back u) (handed u))
      (λ k. (sym out k, sym two k)) (splits id v.made v.opening v.own q ps)

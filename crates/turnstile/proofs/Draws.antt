-- Drawing a ticket keeps the rule.
use Rattle.std.proofs.Common.{◌≡◌, ℕ, ◌+◌, ◌%◌, ◌^◌, List, [], ◌∷◌, length, set, get_or, refl, ap, ◌∙◌, arith}
use Rattle.std.specs.Prelude.{Option}
use Rattle.std.proofs.lemmas.List.Elements.{All-set}
use Rattle.std.proofs.Math.Nat.{mod-add-mod}
use mathlib.Core.Option.{some}
use lib.ListN.{get_elem?}
use Rattle.atomic_table.specs.Table.{State, Step, keeps, Allows}
use Rattle.turnstile.specs.declared.view.View.{View}
use Rattle.turnstile.specs.declared.view.Stage.TheVariants.{Out, Waits}
use Rattle.turnstile.specs.Views.{at_stage}
use Rattle.turnstile.specs.Turns.{is_inside}
use Rattle.turnstile.specs.Rule.{Fits, Stands}
use Rattle.turnstile.specs.Steps.{Holder, drew}
use Rattle.turnstile.proofs.Totals.{all_at, total-set}
use Rattle.turnstile.proofs.TicketSteps.{tickets_draw}
use Rattle.turnstile.proofs.NumberSteps.{numbers_stay}
use Rattle.turnstile.proofs.TurnSteps.{turns_stay}

module _ {A E : Type 0} (entries : A → List E) (number : E → ℕ) (made opening : ℕ) where
  drawn : (s : State (Option A) (View E)) (r : Stands entries number made opening s) (id : ℕ) (v : View E) → get_elem? s.views id ≡ some (at_stage Out v)
      → Stands entries number made opening record { words = set s.words 0 ((get_or s.words 0 0 + 1) % 2 ^ 64); homes = s.homes; views = set s.views id (at_stage (Waits r.next) v) }
  drawn s r id v at = let f = all_at (Fits number made opening r.turn r.history) s.views id (at_stage Out v) r.fits at in record {
    next = r.next + 1;
    turn = r.turn;
    history = r.history;
    words = ap (λ (ws : List ℕ). set ws 0 ((get_or ws 0 0 + 1) % 2 ^ 64)) r.words ∙ ap (λ (k : ℕ). k ∷ r.turn % 2 ^ 64 ∷ length r.history % 2 ^ 64 ∷ []) (mod-add-mod r.next (2 ^ 64) 1);
    tickets = tickets_draw r.next r.turn s.views id v at r.tickets;
    numbers = numbers_stay number made opening r.history s.views id (at_stage Out v) (at_stage (Waits r.next) v) at (λ n. refl) refl r.numbers;
    turns = turns_stay entries r.history s.homes s.views (set s.views id (at_stage (Waits r.next) v))
        (let t = total-set (λ (u : View E). is_inside u.stage) s.views id (at_stage Out v) (at_stage (Waits r.next) v) at in omega arith) r.turns;
    fits = All-set (Fits number made opening r.turn r.history) s.views id (at_stage (Waits r.next) v) record { knows = f.knows; turn_is = tt; tallies = f.tallies } r.fits;
  }

  pub draws : (slots id : ℕ) (st : Step (Option A)) (me : Holder A E) → me.0.stage ≡ Out
      → Allows (Stands entries number made opening) slots id me 0 (λ n. (n + 1) % 2 ^ 64) (drew st me)
  draws slots id st me out s r deep at low =
      (at_stage (Waits r.next) me.0, keeps, tt, drawn s r id me.0 (at ∙ ap (λ z. some (at_stage z me.0)) out), (r.next, ap (λ (ws : List ℕ). get_or ws 0 0) r.words, refl))

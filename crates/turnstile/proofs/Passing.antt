-- Passing the turn on keeps the rule.
use Rattle.std.proofs.Common.{◌≡◌, ℕ, ◌+◌, ◌%◌, ◌^◌, List, [], ◌∷◌, length, set, get_or, refl, sym, ap, ◌∙◌, arith, inl}
use Rattle.std.specs.Prelude.{Option, Some}
use Rattle.std.proofs.lemmas.List.Elements.{All-set}
use Rattle.std.proofs.Math.Nat.{mod-add-mod}
use mathlib.Core.Option.{none, some}
use mathlib.Core.Option as maybe
use lib.ListN.{get_elem?}
use Rattle.atomic_table.specs.Table.{State, Step, gives, Allows, put_back, rest}
use Rattle.turnstile.specs.declared.view.View.{View}
use Rattle.turnstile.specs.declared.view.Stage.TheVariants.{Out, Inside}
use Rattle.turnstile.specs.Views.{at_stage}
use Rattle.turnstile.specs.Tickets.{total}
use Rattle.turnstile.specs.Turns.{is_inside}
use Rattle.turnstile.specs.Rule.{Fits, Stands}
use Rattle.turnstile.specs.Steps.{Holder, passed}
use Rattle.turnstile.proofs.Totals.{all_at, total-set, total_has, total_none, all_both}
use Rattle.turnstile.proofs.TicketSteps.{tickets_pass}
use Rattle.turnstile.proofs.NumberSteps.{numbers_stay}
use Rattle.turnstile.proofs.TurnSteps.{is_away, turn_free}

module _ {A E : Type 0} (entries : A → List E) (number : E → ℕ) (made opening : ℕ) where
  goes_out : (s : State (Option A) (View E)) (r : Stands entries number made opening s) (id : ℕ) (v : View E) (value : A) (homes' : List (maybe.Option (Option A))) → get_elem? s.views id ≡ some (at_stage (Inside r.turn) v)
      → entries value ≡ r.history → homes' ≡ set s.homes 0 (some (Some value))
      → Stands entries number made opening record { words = set s.words 1 ((get_or s.words 1 0 + 1) % 2 ^ 64); homes = homes'; views = set s.views id (at_stage Out v) }
  goes_out s r id v value homes' at has placed =
      let f = all_at (Fits number made opening r.turn r.history) s.views id (at_stage (Inside r.turn) v) r.fits at in
      let away = is_away entries r.history s.homes s.views (total_has (λ (u : View E). is_inside u.stage) s.views id (at_stage (Inside r.turn) v) at) r.turns in
      let none_in : total (λ (u : View E). is_inside u.stage) (set s.views id (at_stage Out v)) ≡ 0 = (let t = total-set (λ (u : View E). is_inside u.stage) s.views id (at_stage (Inside r.turn) v) (at_stage Out v) at in let z = away.one in omega arith) in record {
        next = r.next;
        turn = r.turn + 1;
        history = r.history;
        words = ap (λ (ws : List ℕ). set ws 1 ((get_or ws 1 0 + 1) % 2 ^ 64)) r.words ∙ ap (λ (k : ℕ). r.next % 2 ^ 64 ∷ k ∷ length r.history % 2 ^ 64 ∷ []) (mod-add-mod r.turn (2 ^ 64) 1);
        tickets = tickets_pass r.next r.turn s.views id v at r.tickets;
        numbers = numbers_stay number made opening r.history s.views id (at_stage (Inside r.turn) v) (at_stage Out v) at (λ n. refl) refl r.numbers;
        turns = inl record { value = value; home = placed ∙ ap (λ hs. set hs 0 (some (Some value))) away.home; has = has; empty = none_in };
        fits = all_both (λ (u : View E). is_inside u.stage ≡ 0) (Fits number made opening r.turn r.history) (Fits number made opening (r.turn + 1) r.history) (set s.views id (at_stage Out v))
            (λ u free had. record { knows = had.knows; turn_is = turn_free r.turn (r.turn + 1) r.history r.history u.stage u.own free had.turn_is; tallies = had.tallies })
            (total_none (λ (u : View E). is_inside u.stage) (set s.views id (at_stage Out v)) none_in)
            (All-set (Fits number made opening r.turn r.history) s.views id (at_stage Out v) record { knows = f.knows; turn_is = tt; tallies = f.tallies } r.fits);
      }

  pub passes_on : (slots id : ℕ) (st : Step (Option A)) (me : Holder A E) (t : ℕ) (value : A) → me.0.stage ≡ Inside t → me.1 ≡ (0, Some value) ∷ [] → me.0.own.seen ≡ entries value
      → Allows (Stands entries number made opening) slots id me 1 (λ n. (n + 1) % 2 ^ 64) (passed st me)
  passes_on slots id st me t value inside holds seen s r deep at low =
      let at' : get_elem? s.views id ≡ some (at_stage (Inside t) me.0) = at ∙ ap (λ z. some (at_stage z me.0)) inside in
      let f = all_at (Fits number made opening r.turn r.history) s.views id (at_stage (Inside t) me.0) r.fits at' in (
        at_stage Out me.0,
        gives,
        tt,
        goes_out s r id me.0 value (put_back s.homes me.1) (at' ∙ ap (λ (k : ℕ). some (at_stage (Inside k) me.0)) f.turn_is.0) (sym seen ∙ f.turn_is.1) (ap (put_back s.homes) holds),
        ap (λ (c : List (ℕ × Option A)). (at_stage Out me.0, rest c)) holds,
      )

-- Looking whose turn it is keeps the rule.
use Rattle.std.proofs.Common.{◌≡◌, ◌≢◌, ℕ, ◌%◌, ◌^◌, ◌<◌, ◌≤◌, List, ◌∷◌, length, set, get_or, refl, sym, ap, ◌∙◌, subst, arith, inr}
use Rattle.std.specs.Prelude.{Option, Some}
use Rattle.std.specs.List.{All}
use Rattle.std.proofs.lemmas.List.Elements.{All-set, All-cons, All-head, All-tail, All-weaker}
use mathlib.Core.Logic.{dite}
use native.Mathlib.Decide.{ℕ_discrete}
use mathlib.Core.Option.{none, some}
use lib.ListN.{get_elem?}
use lib.Seq.{set-get_or}
use Rattle.atomic_table.proofs.Lists.{set_again}
use Rattle.atomic_table.specs.Table.{State, Step, Act, Valid, stepped, carried_after, keeps, takes, Allows}
use Rattle.turnstile.specs.declared.view.View.{View}
use Rattle.turnstile.specs.declared.view.Stage.{Stage}
use Rattle.turnstile.specs.declared.view.Stage.TheVariants.{Spent, Out, Waits, Inside}
use Rattle.turnstile.specs.Entries.{Tallies, HaveAll}
use Rattle.turnstile.specs.Views.{at_stage, arrived}
use Rattle.turnstile.specs.Turns.{is_inside, HasTurn, AtHome}
use Rattle.turnstile.specs.Rule.{Fits, Stands}
use Rattle.turnstile.specs.Steps.{Holder, Learns, looked}
use Rattle.turnstile.proofs.Totals.{all_at, total-set}
use Rattle.turnstile.proofs.TicketSteps.{tickets_stay, same_ticket}
use Rattle.turnstile.proofs.NumberSteps.{numbers_stay}
use Rattle.turnstile.proofs.TurnSteps.{nobody_inside, at_home}
use Rattle.turnstile.proofs.Growth.{tallies_arrived}
use Rattle.turnstile.proofs.Whole.{have_all}

abbrev ticket_of : Stage → ℕ
ticket_of Spent = 0
ticket_of Out = 0
ticket_of (Waits t) = t
ticket_of (Inside t) = t

module _ {A E : Type 0} (entries : A → List E) (number : E → ℕ) (made opening : ℕ) where
  -- a step that changes nothing
  unmoved : (s : State (Option A) (View E)) → Stands entries number made opening s → (i id : ℕ) (v : View E) → get_elem? s.views id ≡ some v
      → Stands entries number made opening record { words = set s.words i (get_or s.words i 0); homes = s.homes; views = set s.views id v }
  unmoved s r i id v at = subst (λ (z : List ℕ × List (View E)). Stands entries number made opening record { words = z.0; homes = s.homes; views = z.1 })
      (λ k. (sym (set-get_or s.words i 0) k, sym (set_again s.views id v at) k)) r

  -- with the value at home, one that has the turn comes in
  comes_in : (s : State (Option A) (View E)) (r : Stands entries number made opening s) (id : ℕ) (v : View E) → get_elem? s.views id ≡ some (at_stage (Waits r.turn) v) → (h : AtHome entries r.history s.homes s.views)
      → Stands entries number made opening record { words = set s.words 1 (get_or s.words 1 0); homes = set s.homes 0 none; views = set s.views id (arrived r.turn (entries h.value) v) }
  comes_in s r id v at h = let f = all_at (Fits number made opening r.turn r.history) s.views id (at_stage (Waits r.turn) v) r.fits at in record {
    next = r.next;
    turn = r.turn;
    history = r.history;
    words = set-get_or s.words 1 0 ∙ r.words;
    tickets = tickets_stay r.next r.turn s.views id (at_stage (Waits r.turn) v) (arrived r.turn (entries h.value) v) at (λ t. refl) refl r.tickets;
    numbers = numbers_stay number made opening r.history s.views id (at_stage (Waits r.turn) v) (arrived r.turn (entries h.value) v) at (λ n. refl) refl r.numbers;
    turns = inr record {
      home = ap (λ hs. set hs 0 none) h.home;
      one = (let t = total-set (λ (u : View E). is_inside u.stage) s.views id (at_stage (Waits r.turn) v) (arrived r.turn (entries h.value) v) at in let z = h.empty in omega arith);
    };
    fits = All-set (Fits number made opening r.turn r.history) s.views id (arrived r.turn (entries h.value) v) record {
      knows = f.knows;
      turn_is = (refl, h.has);
      tallies = All-cons (Tallies number opening r.history) (record v.own { seen = entries h.value }) v.joined
          (subst (λ (es : List E). Tallies number opening r.history (record v.own { seen = es })) (sym h.has) (tallies_arrived number opening r.history v.own (All-head (Tallies number opening r.history) v.own v.joined f.tallies)))
          (All-tail (Tallies number opening r.history) v.own v.joined f.tallies);
    } r.fits;
  }

  learnt : (s : State (Option A) (View E)) (r : Stands entries number made opening s) (id t : ℕ) (v : View E) → get_elem? s.views id ≡ some (at_stage (Waits t) v) → (es : List E) → es ≡ r.history → Learns number v es
  learnt s r id t v at es same = let f = all_at (Fits number made opening r.turn r.history) s.views id (at_stage (Waits t) v) r.fits at in record {
    tallies = subst (λ (z : ℕ × List E). All (Tallies number z.0 z.1) (v.own ∷ v.joined)) (λ k. (sym f.knows.1 k, sym same k)) f.tallies;
    whole = λ (le : v.made ≤ length (v.own ∷ v.joined)). subst (λ (z : ℕ × List E). HaveAll z.0 z.1 (v.own ∷ v.joined)) (λ k. (sym f.knows.1 k, sym same k))
        (have_all number made opening r.history s.views id (at_stage (Waits t) v) at r.numbers (subst (λ (m : ℕ). m ≤ length (v.own ∷ v.joined)) f.knows.0 le) f.tallies);
  }

  home_now : (s : State (Option A) (View E)) (r : Stands entries number made opening s) (id : ℕ) (v : View E) → get_elem? s.views id ≡ some (at_stage (Waits r.turn) v) → AtHome entries r.history s.homes s.views
  home_now s r id v at = at_home entries r.history s.homes s.views (nobody_inside r.next r.turn r.history s.views id v at r.tickets
      (All-weaker (Fits number made opening r.turn r.history) (λ (u : View E). HasTurn r.turn r.history u.stage u.own) (λ u had. had.turn_is) s.views r.fits)) r.turns

  module _ (slots id : ℕ) (st : Step (Option A)) (me : Holder A E) (t : ℕ) (waits : me.0.stage ≡ Waits t) where
    misses : (s : State (Option A) (View E)) → Stands entries number made opening s → get_elem? s.views id ≡ some me.0 → get_or s.words 1 0 ≢ t % 2 ^ 64
        → (w : View E) × (a : Act (Option A)) × Valid s.homes me.1 a × Stands entries number made opening (stepped s 1 (get_or s.words 1 0) id me.1 w a)
        × looked entries number st me (get_or s.words 1 0) (w, carried_after me.1 a)
    misses s r at other = (me.0, keeps, tt, unmoved s r 1 id me.0 at, λ u is. ((λ e. absurd (other (e ∙ ap (λ (k : ℕ). k % 2 ^ 64) (ap ticket_of (sym is ∙ waits))))), (λ _. refl)))

    hits : (s : State (Option A) (View E)) → (r : Stands entries number made opening s) → get_elem? s.views id ≡ some (at_stage (Waits r.turn) me.0) → t ≡ r.turn → get_or s.words 1 0 ≡ t % 2 ^ 64
        → (w : View E) × (a : Act (Option A)) × Valid s.homes me.1 a × Stands entries number made opening (stepped s 1 (get_or s.words 1 0) id me.1 w a)
        × looked entries number st me (get_or s.words 1 0) (w, carried_after me.1 a)
    hits s r at same found = let h = home_now s r id me.0 at in (
      arrived r.turn (entries h.value) me.0,
      takes 0 (Some h.value),
      ap (λ hs. get_elem? hs 0) h.home,
      comes_in s r id me.0 at h,
      λ u is. let e : r.turn ≡ u = sym same ∙ ap ticket_of (sym waits ∙ is) in (
        (λ _. record { value = h.value; after = (λ k. (arrived (e k) (entries h.value) me.0, (0, Some h.value) ∷ me.1)); learns = learnt s r id r.turn me.0 at (entries h.value) h.has }),
        (λ other. absurd (other (found ∙ ap (λ (k : ℕ). k % 2 ^ 64) (same ∙ e)))),
      ),
    )

    pub looks : made < 2 ^ 32 → Allows (Stands entries number made opening) slots id me 1 (λ n. n) (looked entries number st me)
    looks few s r deep at low = dite (ℕ_discrete (get_or s.words 1 0) (t % 2 ^ 64))
        (λ found. let at' : get_elem? s.views id ≡ some (at_stage (Waits t) me.0) = at ∙ ap (λ z. some (at_stage z me.0)) waits in
        let turn_found : get_or s.words 1 0 ≡ r.turn % 2 ^ 64 = ap (λ (ws : List ℕ). get_or ws 1 0) r.words in
        let same : t ≡ r.turn = same_ticket r.next r.turn made s.views id t me.0 at' r.tickets r.numbers.all few (sym turn_found ∙ found) in
        hits s r (at' ∙ ap (λ (k : ℕ). some (at_stage (Waits k) me.0)) same) same found)
        (λ other. misses s r at other)

-- Publishing the new entries keeps the rule: they are the pass's own, and no other pass has its number.
use Rattle.std.proofs.Common.{◌≡◌, ℕ, zero, suc, ◌+◌, ◌%◌, ◌^◌, ◌<◌, ◌≤◌, List, [], ◌∷◌, ◌++◌, length, drop, set, get_or, refl, sym, ap, ◌∙◌, subst, arith, inr}
use Rattle.std.specs.Prelude.{Option, Some}
use Rattle.std.specs.List.{All}
use Rattle.std.proofs.lemmas.List.{drop-append-le}
use Rattle.std.proofs.lemmas.List.Elements.{All-cons, All-head, All-tail, All-append, All-weaker, All-same}
use mathlib.Core.Option.{some, some-injective, some-ne-none}
use lib.ListN.{get_elem?}
use Rattle.atomic_table.specs.Table.{State, Step, keeps, Allows}
use Rattle.turnstile.specs.declared.view.View.{View}
use Rattle.turnstile.specs.declared.view.Stage.{Stage}
use Rattle.turnstile.specs.declared.view.Stage.TheVariants.{Inside}
use Rattle.turnstile.specs.Entries.{StartsWith, AllCarry, Tallies}
use Rattle.turnstile.specs.Views.{at_stage, gained, parts}
use Rattle.turnstile.specs.Tickets.{total}
use Rattle.turnstile.specs.Numbers.{numbered, Numbers}
use Rattle.turnstile.specs.Turns.{is_inside}
use Rattle.turnstile.specs.Rule.{Fits, Stands}
use Rattle.turnstile.specs.Steps.{Holder, published}
use Rattle.turnstile.proofs.Totals.{all_at, total-set, total_has, total_none}
use Rattle.turnstile.proofs.TicketSteps.{tickets_stay, own_once}
use Rattle.turnstile.proofs.NumberSteps.{numbers_stay, number_below}
use Rattle.turnstile.proofs.TurnSteps.{is_away, turn_free, most_once}
use Rattle.turnstile.proofs.Growth.{rest_is, tallies_others, tallies_own, opened_by}

abbrev pub value_in : {A : Type 0} → A → List (ℕ × Option A) → A
value_in d [] = d
value_in d ((k, Some x) ∷ xs) = x
value_in d ((k, o) ∷ xs) = d

module _ {E : Type 0} (number : E → ℕ) (made opening turn : ℕ) (history new history' : List E) (n : ℕ) (more : history' ≡ history ++ new) (all : AllCarry number n new) where
  -- a view without the number, and not inside
  other_fits : (u : View E) → numbered n (parts u) ≡ 0 → is_inside u.stage ≡ 0 → Fits number made opening turn history u → Fits number made opening turn history' u
  other_fits u none free f = record {
    knows = f.knows;
    turn_is = turn_free turn turn history history' u.stage u.own free f.turn_is;
    tallies = tallies_others number opening history new history' n more all (parts u) none f.tallies;
  }

  others_fit : (us : List (View E)) → total (λ u. numbered n (parts u)) us ≡ 0 → total (λ u. is_inside u.stage) us ≡ 0 → All (Fits number made opening turn history) us → All (Fits number made opening turn history') us
  others_fit us none free f = λ k d h. other_fits (get_or us k d) (total_none (λ (u : View E). numbered n (parts u)) us none k d h) (total_none (λ (u : View E). is_inside u.stage) us free k d h) (f k d h)

  -- all views, where one that is inside has the number, and no other has
  all_fit : (us : List (View E)) (id : ℕ) (v w : View E) → get_elem? us id ≡ some v → 1 ≤ numbered n (parts v) → 1 ≤ is_inside v.stage
      → total (λ u. numbered n (parts u)) us ≤ 1 → total (λ u. is_inside u.stage) us ≤ 1 → Fits number made opening turn history' w
      → All (Fits number made opening turn history) us → All (Fits number made opening turn history') (set us id w)
  all_fit [] id v w at has within one only fw f = absurd (some-ne-none v (sym at))
  all_fit (x ∷ xs) zero v w at has within one only fw f =
      let e : x ≡ v = some-injective x v at in
      let h : 1 ≤ numbered n (parts x) = subst (λ (u : View E). 1 ≤ numbered n (parts u)) (sym e) has in
      let i : 1 ≤ is_inside x.stage = subst (λ (u : View E). 1 ≤ is_inside u.stage) (sym e) within in
      All-cons (Fits number made opening turn history') w xs fw (others_fit xs (omega arith) (omega arith) (All-tail (Fits number made opening turn history) x xs f))
  all_fit (x ∷ xs) (suc id) v w at has within one only fw f =
      let h = total_has (λ (u : View E). numbered n (parts u)) xs id v at in
      let i = total_has (λ (u : View E). is_inside u.stage) xs id v at in
      All-cons (Fits number made opening turn history') x (set xs id w) (other_fits x (omega arith) (omega arith) (All-head (Fits number made opening turn history) x xs f))
      (all_fit xs id v w at has within (omega arith) (omega arith) fw (All-tail (Fits number made opening turn history) x xs f))

module _ {A E : Type 0} (entries : A → List E) (number : E → ℕ) (made opening : ℕ) where
  module _ (s : State (Option A) (View E)) (r : Stands entries number made opening s) (id : ℕ) (v : View E) (at : get_elem? s.views id ≡ some (at_stage (Inside r.turn) v))
      (now : List E) (k : ℕ) (front : v.own.seen ≡ r.history) (starts : StartsWith now v.own.seen) (carry : AllCarry number v.own.number (drop (length v.own.seen) now))
      (counts : (length v.own.seen % 2 ^ 64 + k) % 2 ^ 64 ≡ length now % 2 ^ 64) where
    new : List E
    new = drop (length v.own.seen) now

    -- the history, and the new entries
    grown : now ≡ r.history ++ drop (length v.own.seen) now
    grown = rest_is number now v.own.seen starts ∙ ap (λ (es : List E). es ++ drop (length v.own.seen) now) front

    f : Fits number made opening r.turn r.history (at_stage (Inside r.turn) v)
    f = all_at (Fits number made opening r.turn r.history) s.views id (at_stage (Inside r.turn) v) r.fits at

    own_tallies : Tallies number opening r.history v.own
    own_tallies = All-head (Tallies number opening r.history) v.own v.joined f.tallies

    -- the pass's number stands once, in its own part
    numbers_once : total (λ u. numbered v.own.number (parts u)) s.views ≤ 1
    numbers_once = subst (λ (m : ℕ). m ≤ 1) (sym (r.numbers.each v.own.number)) (most_once _)

    has_number : 1 ≤ numbered v.own.number (v.own ∷ v.joined)
    has_number = let o = own_once v.own.number in omega arith

    no_joined : numbered v.own.number v.joined ≡ 0
    no_joined = let o = own_once v.own.number in let n = numbers_once in
        let h : numbered v.own.number (v.own ∷ v.joined) ≤ total (λ (u : View E). numbered v.own.number (parts u)) s.views = total_has (λ (u : View E). numbered v.own.number (parts u)) s.views id (at_stage (Inside r.turn) v) at in omega arith

    own_fits : Fits number made opening r.turn now (at_stage (Inside r.turn) (gained now v))
    own_fits = record {
      knows = f.knows;
      turn_is = (refl, refl);
      tallies = All-cons (Tallies number opening now) (record v.own { seen = now; mine = v.own.mine ++ drop (length v.own.seen) now }) v.joined
          (tallies_own number opening r.history (drop (length v.own.seen) now) now v.own.number grown carry v.own refl own_tallies)
          (tallies_others number opening r.history (drop (length v.own.seen) now) now v.own.number grown carry v.joined no_joined (All-tail (Tallies number opening r.history) v.own v.joined f.tallies));
    }

    inside_one : total (λ u. is_inside u.stage) s.views ≡ 1
    inside_one = (is_away entries r.history s.homes s.views (total_has (λ (u : View E). is_inside u.stage) s.views id (at_stage (Inside r.turn) v) at) r.turns).one

    entries_below : All (λ e. number e < made) (drop opening now)
    entries_below =
        let b : v.own.number < made = number_below number made opening r.history s.views id v.own.number (at_stage (Inside r.turn) v) at has_number r.numbers in
        All-same (λ (e : E). number e < made) (drop opening now) (drop opening r.history ++ drop (length v.own.seen) now)
        (ap (drop opening) grown ∙ drop-append-le opening r.history (drop (length v.own.seen) now) (opened_by number opening r.history v.own own_tallies))
        (All-append (λ (e : E). number e < made) (drop opening r.history) (drop (length v.own.seen) now) r.numbers.entries
        (All-weaker (λ (e : E). number e ≡ v.own.number) (λ (e : E). number e < made) (λ e is. subst (λ (m : ℕ). m < made) (sym is) b) (drop (length v.own.seen) now) carry))

    numbers_now : Numbers number made opening now (set s.views id (at_stage (Inside r.turn) (gained now v)))
    numbers_now = let z = numbers_stay number made opening r.history s.views id (at_stage (Inside r.turn) v) (at_stage (Inside r.turn) (gained now v)) at (λ n. refl) refl r.numbers in
        record { each = z.each; all = z.all; entries = entries_below }

    publishes_stands : Stands entries number made opening record { words = set s.words 2 ((get_or s.words 2 0 + k) % 2 ^ 64); homes = s.homes; views = set s.views id (at_stage (Inside r.turn) (gained now v)) }
    publishes_stands = record {
      next = r.next;
      turn = r.turn;
      history = now;
      words = ap (λ (ws : List ℕ). set ws 2 ((get_or ws 2 0 + k) % 2 ^ 64)) r.words
          ∙ ap (λ (m : ℕ). r.next % 2 ^ 64 ∷ r.turn % 2 ^ 64 ∷ m ∷ []) (ap (λ (es : List E). (length es % 2 ^ 64 + k) % 2 ^ 64) (sym front) ∙ counts);
      tickets = tickets_stay r.next r.turn s.views id (at_stage (Inside r.turn) v) (at_stage (Inside r.turn) (gained now v)) at (λ t. refl) refl r.tickets;
      numbers = numbers_now;
      turns = inr record {
        home = (is_away entries r.history s.homes s.views (total_has (λ (u : View E). is_inside u.stage) s.views id (at_stage (Inside r.turn) v) at) r.turns).home;
        one = (let t = total-set (λ (u : View E). is_inside u.stage) s.views id (at_stage (Inside r.turn) v) (at_stage (Inside r.turn) (gained now v)) at in let z = inside_one in omega arith);
      };
      fits = all_fit number made opening r.turn r.history (drop (length v.own.seen) now) now v.own.number grown carry s.views id (at_stage (Inside r.turn) v) (at_stage (Inside r.turn) (gained now v)) at
          has_number (omega arith) numbers_once (let z = inside_one in omega arith) own_fits r.fits;
    }

  pub publishes : (slots id k : ℕ) (st : Step (Option A)) (me : Holder A E) (t : ℕ) (value : A) → me.0.stage ≡ Inside t → me.1 ≡ (0, Some value) ∷ [] → StartsWith (entries value) me.0.own.seen
      → AllCarry number me.0.own.number (drop (length me.0.own.seen) (entries value)) → (length me.0.own.seen % 2 ^ 64 + k) % 2 ^ 64 ≡ length (entries value) % 2 ^ 64
      → Allows (Stands entries number made opening) slots id me 2 (λ n. (n + k) % 2 ^ 64) (published entries st me)
  publishes slots id k st me t value inside holds starts carry counts s r deep at low =
      let at' : get_elem? s.views id ≡ some (at_stage (Inside t) me.0) = at ∙ ap (λ z. some (at_stage z me.0)) inside in
      let f = all_at (Fits number made opening r.turn r.history) s.views id (at_stage (Inside t) me.0) r.fits at' in
      let e : me.0.stage ≡ Inside r.turn = inside ∙ ap Inside f.turn_is.0 in (
        gained (entries value) me.0,
        keeps,
        tt,
        subst (λ (z : Stage). Stands entries number made opening record { words = set s.words 2 ((get_or s.words 2 0 + k) % 2 ^ 64); homes = s.homes; views = set s.views id (at_stage z (gained (entries value) me.0)) }) (sym e)
            (publishes_stands s r id me.0 (at ∙ ap (λ z. some (at_stage z me.0)) e) (entries value) k f.turn_is.1 starts carry counts),
        λ other is. ap (λ (x : A). (gained (entries x) me.0, me.1)) (ap (value_in value) (sym holds ∙ is)),
      )

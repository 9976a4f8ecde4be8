-- What each kind of step leaves of the first part of the rule: who holds which ticket.
use Rattle.std.proofs.Common.{◌≡◌, ℕ, ◌+◌, ◌%◌, ◌^◌, ◌<◌, ◌≤◌, List, [], ◌∷◌, ◌++◌, length, set, sym, ap, ◌∙◌, subst, arith}
use Rattle.std.specs.Prelude.{◌&&◌, nat_le, nat_lt, nat_eq}
use Rattle.std.proofs.lemmas.Bool.Decides.{nat_tests}
use Rattle.atomic_table.proofs.Lists.{one_turn}
use mathlib.Core.Option.{some}
use lib.ListN.{get_elem?}
use Rattle.turnstile.specs.declared.view.View.{View}
use Rattle.turnstile.specs.declared.view.Stage.{Stage}
use Rattle.turnstile.specs.declared.view.Stage.TheVariants.{Spent, Out, Waits, Inside}
use Rattle.turnstile.specs.Views.{at_stage, parts_at, parts}
use Rattle.turnstile.specs.Tickets.{total, once, holds_ticket, has_ticket, Tickets}
use Rattle.turnstile.proofs.Totals.{total-set, total-append, total_has, total-le}

drawn_count : (next turn t before after : ℕ) → turn ≤ next → before ≡ once (nat_le turn t && nat_lt t next) → after + 0 ≡ before + once (nat_eq t next)
    → after ≡ once (nat_le turn t && nat_lt t (next + 1))
drawn_count next turn t before after le e s = grind (arith, nat_tests)

passed_count : (next turn t before after : ℕ) → turn < next → before ≡ once (nat_le turn t && nat_lt t next) → after + once (nat_eq t turn) ≡ before + 0
    → after ≡ once (nat_le (turn + 1) t && nat_lt t next)
passed_count next turn t before after le e s = grind (arith, nat_tests)

pub own_once : (t : ℕ) → once (nat_eq t t) ≡ 1
own_once t = grind (arith, nat_tests)

within : (next turn t n : ℕ) → n ≡ once (nat_le turn t && nat_lt t next) → 1 ≤ n → (turn ≤ t) × (t < next)
within next turn t n e l = (grind (arith, nat_tests), grind (arith, nat_tests))

module _ {E : Type 0} where
  -- a step after which the same ticket is held
  pub tickets_stay : (next turn : ℕ) (views : List (View E)) (id : ℕ) (v w : View E) → get_elem? views id ≡ some v
      → ((t : ℕ) → holds_ticket t w.stage ≡ holds_ticket t v.stage) → has_ticket w.stage ≡ has_ticket v.stage → Tickets next turn views → Tickets next turn (set views id w)
  tickets_stay next turn views id v w at same has r = record {
    each = λ t. let s = total-set (λ (u : View E). holds_ticket t u.stage) views id v w at in let h = same t in let e = r.each t in (let k : total (λ (u : View E). holds_ticket t u.stage) (set views id w) ≡ total (λ (u : View E). holds_ticket t u.stage) views = omega arith in k ∙ e);
    out = let s = total-set (λ (u : View E). has_ticket u.stage) views id v w at in let e = r.out in omega arith;
  }

  pub tickets_append : (next turn : ℕ) (views : List (View E)) (w : View E) → w.stage ≡ Out → Tickets next turn views → Tickets next turn (views ++ w ∷ [])
  tickets_append next turn views w out r = record {
    each = λ t. let s = total-append (λ (u : View E). holds_ticket t u.stage) views (w ∷ []) in let h : holds_ticket t w.stage ≡ 0 = ap (holds_ticket t) out in
        (let k : total (λ (u : View E). holds_ticket t u.stage) (views ++ w ∷ []) ≡ total (λ (u : View E). holds_ticket t u.stage) views = omega arith in k ∙ r.each t);
    out = let s = total-append (λ (u : View E). has_ticket u.stage) views (w ∷ []) in let h : has_ticket w.stage ≡ 0 = ap has_ticket out in let e = r.out in omega arith;
  }

  pub tickets_draw : (next turn : ℕ) (views : List (View E)) (id : ℕ) (v : View E) → get_elem? views id ≡ some (at_stage Out v) → Tickets next turn views → Tickets (next + 1) turn (set views id (at_stage (Waits next) v))
  tickets_draw next turn views id v at r = record {
    each = λ t. drawn_count next turn t (total (λ (u : View E). holds_ticket t u.stage) views) (total (λ (u : View E). holds_ticket t u.stage) (set views id (at_stage (Waits next) v)))
        (let e = r.out in omega arith) (r.each t) (total-set (λ (u : View E). holds_ticket t u.stage) views id (at_stage Out v) (at_stage (Waits next) v) at);
    out = let s = total-set (λ (u : View E). has_ticket u.stage) views id (at_stage Out v) (at_stage (Waits next) v) at in let e = r.out in omega arith;
  }

  pub tickets_pass : (next turn : ℕ) (views : List (View E)) (id : ℕ) (v : View E) → get_elem? views id ≡ some (at_stage (Inside turn) v) → Tickets next turn views → Tickets next (turn + 1) (set views id (at_stage Out v))
  tickets_pass next turn views id v at r =
      let h : 1 ≤ total (λ (u : View E). has_ticket u.stage) views = total_has (λ (u : View E). has_ticket u.stage) views id (at_stage (Inside turn) v) at in
      let e = r.out in record {
        each = λ t. passed_count next turn t (total (λ (u : View E). holds_ticket t u.stage) views) (total (λ (u : View E). holds_ticket t u.stage) (set views id (at_stage Out v)))
            (omega arith) (r.each t) (total-set (λ (u : View E). holds_ticket t u.stage) views id (at_stage (Inside turn) v) (at_stage Out v) at);
        out = let s = total-set (λ (u : View E). has_ticket u.stage) views id (at_stage (Inside turn) v) (at_stage Out v) at in omega arith;
      }

  has_part : (stage : Stage) (v : View E) → has_ticket stage ≤ length (parts_at stage v.own v.joined)
  has_part Spent v = omega arith
  has_part Out v = omega arith
  has_part (Waits t) v = omega arith
  has_part (Inside t) v = omega arith

  -- a ticket that is out is the turn's where it is so modulo 2^64: as many are out as there are passes, at the most
  pub same_ticket : (next turn made : ℕ) (views : List (View E)) (id t : ℕ) (v : View E) → get_elem? views id ≡ some (at_stage (Waits t) v) → Tickets next turn views
      → total (λ u. length (parts u)) views ≡ made → made < 2 ^ 32 → turn % 2 ^ 64 ≡ t % 2 ^ 64 → t ≡ turn
  same_ticket next turn made views id t v at r all few e =
      let h : 1 ≤ total (λ (u : View E). holds_ticket t u.stage) views = subst (λ (k : ℕ). k ≤ total (λ (u : View E). holds_ticket t u.stage) views) (own_once t) (total_has (λ (u : View E). holds_ticket t u.stage) views id (at_stage (Waits t) v) at) in
      let b = within next turn t (total (λ (u : View E). holds_ticket t u.stage) views) (r.each t) h in
      let o = r.out in
      let l : total (λ (u : View E). has_ticket u.stage) views ≤ total (λ (u : View E). length (parts u)) views = total-le (λ (u : View E). has_ticket u.stage) (λ (u : View E). length (parts u)) views (λ u. has_part u.stage u) in
      sym (one_turn turn t (2 ^ 64) b.0 (omega arith) e)

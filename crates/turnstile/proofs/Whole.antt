-- The passes together have all new entries: a pass with as many parts as passes were made has them.
use Rattle.std.proofs.Common.{◌≡◌, ℕ, ◌+◌, ◌<◌, ◌≤◌, List, [], ◌∷◌, length, drop, set, refl, sym, ap, ◌∙◌, arith}
use Rattle.std.specs.Prelude.{true, false, Bool, cond, nat_eq, nat_lt}
use Rattle.std.specs.List.{All}
use Rattle.std.proofs.lemmas.List.Elements.{All-head, All-tail, All-weaker}
use Rattle.std.proofs.lemmas.Bool.Decides.{nat_tests}
use mathlib.Core.Option.{some}
use lib.ListN.{get_elem?}
use Rattle.turnstile.specs.declared.view.Part.{Part}
use Rattle.turnstile.specs.declared.view.View.{View}
use Rattle.turnstile.specs.declared.view.Stage.{Stage}
use Rattle.turnstile.specs.declared.view.Stage.TheVariants.{Spent, Out, Waits, Inside}
use Rattle.turnstile.specs.Entries.{carrying, added, Tallies, HaveAll}
use Rattle.turnstile.specs.Views.{parts, parts_at, spent}
use Rattle.turnstile.specs.Tickets.{total, once}
use Rattle.turnstile.specs.Numbers.{numbered, Numbers}
use Rattle.turnstile.specs.Turns.{is_inside}
use Rattle.turnstile.proofs.Totals.{total-set, total-le, total_as_sum}

length_one_more : {X : Type 0} (b : Bool) (x : X) (xs : List X) → length (cond b (x ∷ xs) xs) ≡ once b + length xs
length_one_more true x xs = omega arith
length_one_more false x xs = omega arith

once_below : (n made : ℕ) → n < made → once (nat_lt n made) ≡ 1
once_below n made h = grind (arith, nat_tests)

once_small : (b : Bool) → once b ≤ 1
once_small true = omega arith
once_small false = omega arith

total-same : {X : Type 0} (f g : X → ℕ) (xs : List X) → All (λ x. f x ≡ g x) xs → total f xs ≡ total g xs
total-same f g [] same = refl
total-same f g (x ∷ xs) same = let h : f x ≡ g x = All-head (λ y. f y ≡ g y) x xs same in omega (arith, total-same f g xs (All-tail (λ y. f y ≡ g y) x xs same))

total_zero : {X : Type 0} (xs : List X) → total (λ _. 0) xs ≡ 0
total_zero [] = refl
total_zero (x ∷ xs) = omega (arith, total_zero xs)

module _ {E : Type 0} (number : E → ℕ) where
  -- one entry more counts once for each part with its number
  one_more : (e : E) (es : List E) (ps : List (Part E)) → total (λ p. length (carrying number p.number (e ∷ es))) ps ≡ numbered (number e) ps + total (λ p. length (carrying number p.number es)) ps
  one_more e es [] = refl
  one_more e es (p ∷ ps) = omega (arith, length_one_more (nat_eq (number e) p.number) e (carrying number p.number es), one_more e es ps)

  all_counted : (made : ℕ) (ps : List (Part E)) → ((n : ℕ) → numbered n ps ≡ once (nat_lt n made)) → (es : List E) → All (λ e. number e < made) es
      → length es ≡ total (λ p. length (carrying number p.number es)) ps
  all_counted made ps each [] below = sym (total_zero ps)
  all_counted made ps each (e ∷ es) below = let h : number e < made = All-head (λ (x : E). number x < made) e es below in
      omega (arith, one_more e es ps, each (number e), once_below (number e) made h, all_counted made ps each es (All-tail (λ (x : E). number x < made) e es below))

  numbered_few : (n : ℕ) (ps : List (Part E)) → numbered n ps ≤ length ps
  numbered_few n [] = omega arith
  numbered_few n (p ∷ ps) = omega (arith, once_small (nat_eq n p.number), numbered_few n ps)

  inside_part : (stage : Stage) (v : View E) → is_inside stage ≤ length (parts_at stage v.own v.joined)
  inside_part Spent v = omega arith
  inside_part Out v = omega arith
  inside_part (Waits t) v = omega arith
  inside_part (Inside t) v = omega arith

  module _ (made opening : ℕ) (history : List E) (views : List (View E)) (id : ℕ) (v : View E) (at : get_elem? views id ≡ some v) (r : Numbers number made opening history views) (whole : made ≤ length (parts v)) where
    others_none : total (λ u. length (parts u)) (set views id spent) ≡ 0
    others_none = let s : total (λ (u : View E). length (parts u)) (set views id spent) + length (parts v) ≡ total (λ (u : View E). length (parts u)) views + 0 = total-set (λ (u : View E). length (parts u)) views id v spent at in
        let a = r.all in omega arith

    each_once : (n : ℕ) → numbered n (parts v) ≡ once (nat_lt n made)
    each_once n = let s : total (λ (u : View E). numbered n (parts u)) (set views id spent) + numbered n (parts v) ≡ total (λ (u : View E). numbered n (parts u)) views + 0 = total-set (λ (u : View E). numbered n (parts u)) views id v spent at in
        let l = total-le (λ (u : View E). numbered n (parts u)) (λ (u : View E). length (parts u)) (set views id spent) (λ u. numbered_few n (parts u)) in
        let o = others_none in let k : numbered n (parts v) ≡ total (λ (u : View E). numbered n (parts u)) views = omega arith in k ∙ r.each n

    -- nobody else is inside
    pub others_out : is_inside v.stage ≡ 0 → total (λ u. is_inside u.stage) views ≡ 0
    others_out z = let s : total (λ (u : View E). is_inside u.stage) (set views id spent) + is_inside v.stage ≡ total (λ (u : View E). is_inside u.stage) views + 0 = total-set (λ (u : View E). is_inside u.stage) views id v spent at in
        let l = total-le (λ (u : View E). is_inside u.stage) (λ (u : View E). length (parts u)) (set views id spent) (λ u. inside_part u.stage u) in let o = others_none in omega arith

    pub have_all : All (Tallies number opening history) (parts v) → HaveAll opening history (parts v)
    unfolding added HaveAll
    have_all t = all_counted made (parts v) each_once (drop opening history) r.entries
        ∙ (total-same (λ (p : Part E). length (carrying number p.number (drop opening history))) (λ (p : Part E). length p.mine) (parts v)
        (All-weaker (Tallies number opening history) (λ (p : Part E). length (carrying number p.number (drop opening history)) ≡ length p.mine) (λ p had. ap (λ (es : List E). length es) had.mine) (parts v) t)
        ∙ total_as_sum (λ (p : Part E). length p.mine) (parts v))

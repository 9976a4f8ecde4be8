-- One line more.
use Rattle.std.proofs.Common.{◌≡◌, ℕ, ◌+◌, true, List, [], ◌∷◌, ◌++◌, refl, arith}
use Rattle.std.specs.Prelude.{Bool, false, ◌&&◌, nat_eq}
use Rattle.std.proofs.lemmas.Bool.Decides.{nat_tests}
use Rattle.turnstile_tests.specs.declared.line.Line.{Line}
use Rattle.turnstile_tests.specs.Lines.{is_legal, sum_after}

both_first : (a b : Bool) → a && b ≡ true → a ≡ true
both_first true b e = refl
both_first false b e = e

both_second : (a b : Bool) → a && b ≡ true → b ≡ true
both_second true b e = e
both_second false b e = absurd (cc)

both : (a b : Bool) → a ≡ true → b ≡ true → a && b ≡ true
both a b p q = rw (p, q) refl

pub legal_push : (s : ℕ) (ls : List Line) (l : Line) → is_legal s ls ≡ true → l.sum ≡ sum_after s ls + l.amount → is_legal s (ls ++ l ∷ []) ≡ true
legal_push s [] l e h = let t : nat_eq l.sum (s + l.amount) ≡ true = grind (arith, nat_tests) in both (nat_eq l.sum (s + l.amount)) true t refl
legal_push s (k ∷ ks) l e h =
    both (nat_eq k.sum (s + k.amount)) (is_legal k.sum (ks ++ l ∷ [])) (both_first (nat_eq k.sum (s + k.amount)) (is_legal k.sum ks) e)
    (legal_push k.sum ks l (both_second (nat_eq k.sum (s + k.amount)) (is_legal k.sum ks) e) h)

pub sum_push : (s : ℕ) (ls : List Line) (l : Line) → sum_after s (ls ++ l ∷ []) ≡ l.sum
sum_push s [] l = refl
sum_push s (k ∷ ks) l = sum_push k.sum ks l

-- The pass from which the others are split off, from number to number.
use Rattle.std.proofs.Common.{◌≡◌, ℕ, zero, suc, ◌+◌, ◌-◌, ◌<◌, List, [], ◌∷◌, ◌++◌, map, refl, sym, ap, ◌∙◌, subst, arith}
use Rattle.std.specs.List.{All, range_with_len}
use Rattle.std.proofs.lemmas.List.Elements.{All-push, All-same}
use mathlib.Core.List.{map-append}
use Rattle.turnstile.specs.declared.pass.Pass.{Pass}
use Rattle.turnstile.specs.declared.turnstile.Turnstile.{Turnstile}
use Rattle.turnstile.specs.Views.{fresh, fresh_from, beginning, kept_back}
use Rattle.turnstile.specs.Making.{IsMaker}
use Rattle.turnstile.specs.Passes.{IsNew}

module _ {E : Type 0} where
  pub more_fresh : (es : List E) (k c : ℕ) → 0 < c → fresh_from es k c ≡ fresh es k ∷ fresh_from es (suc k) (c - 1)
  more_fresh es k c h = let e : suc (c - 1) ≡ c = omega arith in subst (λ (n : ℕ). fresh_from es k n ≡ fresh es k ∷ fresh_from es (suc k) (c - 1)) e refl

  pub made_next : (made : ℕ) (es : List E) (k : ℕ) → k + 1 < made → kept_back (beginning made es k (made - 1 - k)) ≡ beginning made es (k + 1) (made - 1 - (k + 1))
  made_next made es k h =
      let e : suc (made - 1 - (k + 1)) ≡ made - 1 - k = omega arith in
      let j : suc k ≡ k + 1 = omega arith in
      subst (λ (c : ℕ). kept_back (beginning made es k c) ≡ beginning made es (k + 1) (made - 1 - (k + 1))) e (ap (λ (i : ℕ). beginning made es i (made - 1 - (k + 1))) j)

range_suc : (a n : ℕ) → range_with_len a (suc n) ≡ range_with_len a n ++ (a + n) ∷ []
range_suc a zero = let e : a ≡ a + 0 = omega arith in ap (λ (k : ℕ). k ∷ []) e
range_suc a (suc n) = let e : (a + 1) + n ≡ a + suc n = omega arith in
    ap (λ (xs : List ℕ). a ∷ xs) (range_suc (a + 1) n ∙ ap (λ (k : ℕ). range_with_len (a + 1) n ++ k ∷ []) e)

module _ {X : Type 0} where
  pub all_pushed : (P : X → Type 0) (xs ys : List X) (x : X) → ys ≡ xs ++ x ∷ [] → All P xs → P x → All P ys
  all_pushed P xs ys x is all has = All-same P ys (xs ++ x ∷ []) is (All-push P xs x all has)

  pub numbers_pushed : (f : X → ℕ) (xs ys : List X) (x : X) (n m : ℕ) → ys ≡ xs ++ x ∷ [] → map f xs ≡ range_with_len 0 n → f x ≡ n → m ≡ n + 1 → map f ys ≡ range_with_len 0 m
  numbers_pushed f xs ys x n m is had number more =
      let e : suc n ≡ m = omega arith in let z : f x ≡ 0 + n = omega arith in
      ap (map f) is ∙ (map-append f xs (x ∷ []) ∙ (ap (λ (ks : List ℕ). ks ++ f x ∷ []) had ∙ (ap (λ (k : ℕ). range_with_len 0 n ++ k ∷ []) z ∙ (sym (range_suc 0 n) ∙ ap (range_with_len 0) e))))

  pub numbers_none : (f : X → ℕ) (xs : List X) (n : ℕ) → xs ≡ [] → n ≡ 0 → map f xs ≡ range_with_len 0 n
  numbers_none f xs n none zeroth = ap (map f) none ∙ ap (range_with_len 0) (sym zeroth)

module _ {A E : Type 0} (entries : A → List E) (gate : Turnstile A E) (es : List E) (pass : Pass A E) where
  -- the last number is the maker's own
  pub maker_is_new : IsMaker entries gate es pass → pass.number + 1 ≡ gate.made → IsNew entries gate es pass
  maker_is_new m last =
      let z : gate.made - 1 - pass.number ≡ 0 = omega arith in
      let now : pass.seat.me ≡ (beginning gate.made es pass.number 0, []) = m.holds ∙ ap (λ (c : ℕ). (beginning gate.made es pass.number c, [])) z in record {
        own = m.own;
        out = record { stage = ap (λ h. h.0.stage) now; empty = ap (λ h. h.1) now };
        alone = ap (λ h. h.0.own ∷ h.0.joined) now;
        opening = ap (λ h. h.0.opening) now;
      }

  pub maker_saw : IsMaker entries gate es pass → pass.seat.me.0.own.seen ≡ es
  maker_saw m = ap (λ h. h.0.own.seen) m.holds

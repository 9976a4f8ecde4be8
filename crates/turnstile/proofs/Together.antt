-- The parts of passes that are joined one after another, from the last on.
use Rattle.std.proofs.Common.{◌≡◌, ℕ, ◌≤◌, List, [], ◌∷◌, ◌++◌, length, sym, ap, ◌∙◌, subst, arith, append_assoc, length-append}
use Rattle.std.specs.List.{All}
use Rattle.std.proofs.lemmas.List.Elements.{All-head, All-tail, All-cons, All-nil, All-same, All-weaker}
use Rattle.turnstile.specs.declared.pass.Pass.{Pass}
use Rattle.turnstile.specs.declared.view.Part.{Part}
use Rattle.turnstile.specs.declared.turnstile.Turnstile.{Turnstile}
use Rattle.turnstile.specs.Entries.{Tallies, HaveAll}
use Rattle.turnstile.specs.Passes.{IsPassOf, opening, parts_of, parts_together}
use Rattle.turnstile.proofs.Totals.{all_both}
use Rattle.turnstile.proofs.Growth.{append_nil}

module _ {X : Type 0} where
  All-front : (P : X → Type 0) (xs ys : List X) → All P (xs ++ ys) → All P xs
  All-front P [] ys all = All-nil P
  All-front P (x ∷ xs) ys all = All-cons P x xs (All-head P x (xs ++ ys) all) (All-front P xs ys (All-tail P x (xs ++ ys) all))

  All-back : (P : X → Type 0) (xs ys : List X) → All P (xs ++ ys) → All P ys
  All-back P [] ys all = all
  All-back P (x ∷ xs) ys all = All-back P xs ys (All-tail P x (xs ++ ys) all)

  -- what holds of a list holds of it without the last, and of the last
  pub popped : (P : X → Type 0) (xs ys : List X) (x : X) → xs ≡ ys ++ x ∷ [] → All P xs → All P ys × P x
  popped P xs ys x was all = let both = All-same P (ys ++ x ∷ []) xs (sym was) all in
      (All-front P ys (x ∷ []) both, All-head P x [] (All-back P ys (x ∷ []) both))

module _ {A E : Type 0} where
  pub parts_push : (ps : List (Pass A E)) (x : Pass A E) → parts_together (ps ++ x ∷ []) ≡ parts_of x ++ parts_together ps
  parts_push [] x = sym (append_nil (parts_of x))
  parts_push (p ∷ ps) x = ap (λ (qs : List (Part E)). qs ++ parts_of p) (parts_push ps x) ∙ append_assoc (parts_of x) (parts_together ps) (parts_of p)

  pub joined_first : (xs ys : List (Pass A E)) (x : Pass A E) → xs ≡ ys ++ x ∷ [] → parts_together xs ≡ parts_of x ++ parts_together ys
  joined_first xs ys x popped = ap parts_together popped ∙ parts_push ys x

  pub joined_more : (whole : List (Part E)) (all now x : Pass A E) (xs ys : List (Pass A E)) → xs ≡ ys ++ x ∷ [] → parts_of now ≡ parts_of all ++ parts_of x
      → whole ≡ parts_of all ++ parts_together xs → whole ≡ parts_of now ++ parts_together ys
  joined_more whole all now x xs ys popped gains had =
      had ∙ (ap (λ (qs : List (Part E)). parts_of all ++ qs) (joined_first xs ys x popped)
      ∙ (sym (append_assoc (parts_of all) (parts_of x) (parts_together ys)) ∙ ap (λ (qs : List (Part E)). qs ++ parts_together ys) (sym gains)))

  pub joined_last : (whole : List (Part E)) (all : Pass A E) (xs : List (Pass A E)) → xs ≡ [] → whole ≡ parts_of all ++ parts_together xs → parts_of all ≡ whole
  joined_last whole all xs none had = sym (had ∙ (ap (λ (ps : List (Pass A E)). parts_of all ++ parts_together ps) none ∙ append_nil (parts_of all)))

  -- each pass has one part at least
  pub as_many_parts : (ps : List (Pass A E)) → length ps ≤ length (parts_together ps)
  as_many_parts [] = omega arith
  as_many_parts (p ∷ ps) = omega (arith, length-append (parts_together ps) (parts_of p), as_many_parts ps)

  -- what holds of all parts together holds of those of each pass
  pub each_pass : (P : Part E → Type 0) (ps : List (Pass A E)) → All P (parts_together ps) → All (λ p. All P (parts_of p)) ps
  each_pass P [] all = All-nil (λ (p : Pass A E). All P (parts_of p))
  each_pass P (p ∷ ps) all = All-cons (λ (q : Pass A E). All P (parts_of q)) p ps (All-back P (parts_together ps) (parts_of p) all) (each_pass P ps (All-front P (parts_together ps) (parts_of p) all))

  module _ (entries : A → List E) (number : E → ℕ) (gate : Turnstile A E) (all : Pass A E) (ps : List (Pass A E)) (es : List E)
      (own : All (IsPassOf entries gate) ps) (is : IsPassOf entries gate all) (joined : parts_of all ≡ parts_together ps) where
    pub as_many : gate.made ≤ length ps → gate.made ≤ length (parts_of all)
    as_many le = let e : length (parts_of all) ≡ length (parts_together ps) = ap length joined in let l = as_many_parts ps in omega arith

    pub all_tally : All (Tallies number (opening all) es) (parts_of all) → All (λ p. All (Tallies number (opening p) es) (parts_of p)) ps
    all_tally t = all_both (IsPassOf entries gate) (λ (p : Pass A E). All (Tallies number (opening all) es) (parts_of p)) (λ (p : Pass A E). All (Tallies number (opening p) es) (parts_of p)) ps
        (λ p has had. subst (λ (o : ℕ). All (Tallies number o es) (parts_of p)) (is.opening ∙ sym has.opening) had) own
        (each_pass (Tallies number (opening all) es) ps (subst (All (Tallies number (opening all) es)) joined t))

    pub all_whole : HaveAll (opening all) es (parts_of all) → All (λ p. HaveAll (opening p) es (parts_together ps)) ps
    all_whole h = All-weaker (IsPassOf entries gate) (λ (p : Pass A E). HaveAll (opening p) es (parts_together ps))
        (λ p has. subst (λ (z : ℕ × List (Part E)). HaveAll z.0 es z.1) (λ k. ((is.opening ∙ sym has.opening) k, joined k)) h) ps own

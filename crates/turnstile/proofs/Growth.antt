-- New entries behind the history, all with one number: what they leave of what each part knows.
use Rattle.std.proofs.Common.{◌≡◌, ℕ, ◌+◌, ◌≤◌, List, [], ◌∷◌, ◌++◌, length, drop, refl, sym, ap, ◌∙◌, subst, arith, append_assoc, length-append}
use Rattle.std.specs.Prelude.{true, false, nat_eq}
use Rattle.std.proofs.lemmas.Bool.Decides.{nat_tests}
use Rattle.std.proofs.lemmas.List.{drop-append-le, drop_at}
use Rattle.std.proofs.lemmas.List.Elements.{filter-append, All-head, All-tail}
use Rattle.std.specs.List.{All}
use Rattle.turnstile.specs.declared.view.Part.{Part}
use Rattle.turnstile.specs.Entries.{StartsWith, carrying, added, Tallies, AllCarry}
use Rattle.turnstile.specs.Tickets.{once}
use Rattle.turnstile.specs.Numbers.{numbered}
use Rattle.turnstile.proofs.Totals.{total_none, all_both}

pub append_nil : {X : Type 0} (xs : List X) → xs ++ [] ≡ xs
append_nil [] = refl
append_nil (x ∷ xs) = ap (λ ys. x ∷ ys) (append_nil xs)

module _ {E : Type 0} (number : E → ℕ) where
  -- entries that carry a number are all there, or none
  pub carrying_all : (n : ℕ) (es : List E) → AllCarry number n es → carrying number n es ≡ es
  carrying_all n [] all = refl
  carrying_all n (e ∷ es) all = let h : number e ≡ n = All-head (λ (x : E). number x ≡ n) e es all in let t = carrying_all n es (All-tail (λ (x : E). number x ≡ n) e es all) in
      let b : nat_eq (number e) n ≡ true = grind (arith, nat_tests) in rw b (ap (λ (ys : List E). e ∷ ys) t)

  pub carrying_none : (n m : ℕ) (es : List E) → AllCarry number n es → once (nat_eq n m) ≡ 0 → carrying number m es ≡ []
  carrying_none n m [] all other = refl
  carrying_none n m (e ∷ es) all other = let h : number e ≡ n = All-head (λ (x : E). number x ≡ n) e es all in let t = carrying_none n m es (All-tail (λ (x : E). number x ≡ n) e es all) other in
      let b : nat_eq (number e) m ≡ false = grind (arith, nat_tests) in rw b t

  pub added_more : (opening m : ℕ) (es new : List E) → opening ≤ length es → added number opening m (es ++ new) ≡ added number opening m es ++ carrying number m new
  unfolding added
  added_more opening m es new le = rw (drop-append-le opening es new) (filter-append (λ (e : E). nat_eq (number e) m) (drop opening es) new)

  -- what starts with a list is that list and the rest
  pub rest_is : (es front : List E) → StartsWith es front → es ≡ front ++ drop (length front) es
  rest_is es front s = s.1 ∙ ap (λ (ys : List E). front ++ ys) (sym (ap (λ (ys : List E). drop (length front) ys) s.1 ∙ drop_at front s.0 (length front) refl))

  pub opened_by : (opening : ℕ) (es : List E) (p : Part E) → Tallies number opening es p → opening ≤ length es
  opened_by opening es p t = let l : length es ≡ length p.seen + length t.begins.0 = ap length t.begins.1 ∙ length-append p.seen t.begins.0 in let k = t.later in omega arith

  module _ (opening : ℕ) (history new history' : List E) (n : ℕ) (more : history' ≡ history ++ new) (all : AllCarry number n new) where
    -- a part with another number
    pub tallies_other : (p : Part E) → Tallies number opening history p → once (nat_eq n p.number) ≡ 0 → Tallies number opening history' p
    tallies_other p t other = record {
      begins = (t.begins.0 ++ new, more ∙ (ap (λ (ys : List E). ys ++ new) t.begins.1 ∙ append_assoc p.seen t.begins.0 new));
      later = t.later;
      mine = ap (added number opening p.number) more ∙ (added_more opening p.number history new (opened_by opening history p t)
          ∙ (ap (λ (ys : List E). added number opening p.number history ++ ys) (carrying_none n p.number new all other) ∙ (append_nil (added number opening p.number history) ∙ t.mine)));
      mine_seen = t.mine_seen;
    }

    pub tallies_others : (ps : List (Part E)) → numbered n ps ≡ 0 → All (Tallies number opening history) ps → All (Tallies number opening history') ps
    tallies_others ps none t = all_both (λ (p : Part E). once (nat_eq n p.number) ≡ 0) (Tallies number opening history) (Tallies number opening history') ps
        (λ p other had. tallies_other p had other) (total_none (λ (p : Part E). once (nat_eq n p.number)) ps none) t

    -- the part whose own the new entries are
    pub tallies_own : (p : Part E) → p.number ≡ n → Tallies number opening history p → Tallies number opening history' (record p { seen = history'; mine = p.mine ++ new })
    tallies_own p is t =
        let now : added number opening p.number history' ≡ p.mine ++ new = ap (added number opening p.number) more ∙ (added_more opening p.number history new (opened_by opening history p t)
        ∙ (ap (λ (ys : List E). ys ++ carrying number p.number new) t.mine ∙ ap (λ (ys : List E). p.mine ++ ys) (carrying_all p.number new (subst (λ (k : ℕ). AllCarry number k new) (sym is) all)))) in record {
          begins = ([], sym (append_nil history'));
          later = (let l : length history' ≡ length history + length new = ap length more ∙ length-append history new in let k = opened_by opening history p t in omega arith);
          mine = now;
          mine_seen = now;
        }

  -- the part of who comes in: it sees the history
  pub tallies_arrived : (opening : ℕ) (history : List E) (p : Part E) → Tallies number opening history p → Tallies number opening history (record p { seen = history })
  tallies_arrived opening history p t = record {
    begins = ([], sym (append_nil history));
    later = opened_by opening history p t;
    mine = t.mine;
    mine_seen = t.mine;
  }

nothing_more : {X : Type 0} (xs ys : List X) → xs ++ ys ≡ xs → ys ≡ []
nothing_more xs [] e = refl
nothing_more xs (y ∷ ys) e = let l : length xs + length (y ∷ ys) ≡ length xs = sym (length-append xs (y ∷ ys)) ∙ ap length e in absurd (omega arith)

module _ {E : Type 0} (number : E → ℕ) where
  -- between what a part saw and the history there is none of its own
  pub none_between : (opening : ℕ) (history : List E) (p : Part E) → Tallies number opening history p → carrying number p.number (drop (length p.seen) history) ≡ []
  none_between opening history p t =
      let new = drop (length p.seen) history in
      nothing_more p.mine (carrying number p.number (drop (length p.seen) history))
      (ap (λ (es : List E). es ++ carrying number p.number (drop (length p.seen) history)) (sym t.mine_seen)
      ∙ (sym (added_more number opening p.number p.seen (drop (length p.seen) history) t.later)
      ∙ (ap (added number opening p.number) (sym (rest_is number history p.seen t.begins)) ∙ t.mine)))

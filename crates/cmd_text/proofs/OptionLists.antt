-- Reading of options and of their lists.
use Rattle.std.proofs.Common.{◌≡◌, ℕ, zero, suc, Bool, true, false, cond, ◌&&◌, ◌==◌, List, [], ◌∷◌, ◌++◌, Result, Ok, Err, refl, sym, subst, inl, inr}
use Rattle.std.proofs.lemmas.Bool.{eqb-true}
use Rattle.kind_core.specs.Bytes.{is_digit}
use Rattle.cmd_words.specs.Language.{Language, ◌▹◌, ◌▸◌, ◌⊕◌, stands_for, word}
use Rattle.cmd_words.specs.Productions.{is_space, sp, sp1, up_to, options}
use Rattle.cmd_text.specs.Reading.{◌>>=◌, expect_at, skip_at, skip_some_at, begins_with, map_at}
use Rattle.cmd_text.specs.ReadingOptions.{option_at, more_at, options_at}
use Rattle.cmd_text.proofs.Settling.{Settles, Reads, Same, Derives, Never, Apart, step, same_at, same_nil, reads_same}
use Rattle.cmd_text.proofs.Joins.{same_trans, with_then, with_with, with_stands, same_then, same_with, then_or}
use Rattle.cmd_text.proofs.Parts.{Lit, lit_nil, lit_derives, lit_reads, lit_apart, lit_begins, BeginsBy, or_reads, or_apart, sp_reads, sp_apart, sp_settles, sp_derives, sp1_reads, sp1_same, sp1_apart, map_bind}

pub assoc : {A B C : Type 0} (r : Result A ℕ) (m : A → Result B ℕ) (g : B → Result C ℕ) → ((r >>= m) >>= g) ≡ (r >>= λ x. (m x >>= g))
assoc (Ok x) m g = refl
assoc (Err e) m g = refl

-- a reading of P before anything that goes on
abbrev pub IsReader : (A C : Type 0) → Language A → (List ℕ → Result (A × List ℕ) ℕ) → (ℕ → Bool) → Type 1
IsReader A C P p test = (K : A → Language C) (f : A → List ℕ → Result C ℕ) → ((a : A) → Apart test (K a)) → ((a : A) → Reads (K a) (f a)) → Reads (P ▸ K) (λ xs. p xs >>= λ a. f a.0 a.1)

-- `-`, a word of P, spaces, a word of Q
abbrev pub option_of : {A V : Type 0} → Language A → Language V → Language (A × V)
option_of P Q = word "-" ▹ P ▸ λ a. sp1 ▹ Q ▸ λ v. stands_for (a, v)

module _ {A V C : Type 0} where
  abbrev opened : Language A → Language V → (A × V → Language C) → Language C
  opened P Q K = Lit (45 ∷ []) (P ▸ λ a. sp1 ▹ Q ▸ λ v. K (a, v))

  option_same : (P : Language A) (Q : Language V) (K : A × V → Language C) → Same (opened P Q K) (option_of P Q ▸ K)
  option_same P Q K =
      let inner : A → Language (A × V) = λ a. sp1 ▹ Q ▸ λ v. stands_for (a, v) in
      let back : Same (option_of P Q ▸ K) (opened P Q K) =
      same_trans (option_of P Q ▸ K) (word "-" ▹ ((P ▸ inner) ▸ K)) (opened P Q K) (with_then (word "-") (P ▸ inner) K)
      (same_then (word "-") ((P ▸ inner) ▸ K) (P ▸ λ a. sp1 ▹ Q ▸ λ v. K (a, v))
      (same_trans ((P ▸ inner) ▸ K) (P ▸ λ a. (inner a ▸ K)) (P ▸ λ a. sp1 ▹ Q ▸ λ v. K (a, v)) (with_with P inner K)
      (same_with P (λ a. (inner a ▸ K)) (λ a. sp1 ▹ Q ▸ λ v. K (a, v)) (λ a.
      same_trans (inner a ▸ K) (sp1 ▹ ((Q ▸ λ v. stands_for (a, v)) ▸ K)) (sp1 ▹ Q ▸ λ v. K (a, v)) (with_then sp1 (Q ▸ λ v. stands_for (a, v)) K)
      (same_then sp1 ((Q ▸ λ v. stands_for (a, v)) ▸ K) (Q ▸ λ v. K (a, v))
      (same_trans ((Q ▸ λ v. stands_for (a, v)) ▸ K) (Q ▸ λ v. (stands_for (a, v) ▸ K)) (Q ▸ λ v. K (a, v)) (with_with Q (λ v. stands_for (a, v)) K)
      (same_with Q (λ v. (stands_for (a, v) ▸ K)) (λ v. K (a, v)) (λ v. with_stands (a, v) K)))))))) in
      (back.1, back.0)

  option_step : (p : List ℕ → Result (A × List ℕ) ℕ) (q : List ℕ → Result (V × List ℕ) ℕ) (f : A × V → List ℕ → Result C ℕ) (xs : List ℕ)
      → (option_at p q xs >>= λ o. f o.0 o.1) ≡ (expect_at (45 ∷ []) xs >>= λ ys. (p ys >>= λ a. (skip_some_at a.1 >>= λ zs. (q zs >>= λ v. f (a.0, v.0) v.1))))
  option_step p q f xs = by_dash (expect_at (45 ∷ []) xs)
    where
      by_space : (a : A) (r : Result (List ℕ) ℕ) → ((r >>= λ rest. map_at (λ v. (a, v)) (q rest)) >>= λ o. f o.0 o.1) ≡ (r >>= λ zs. (q zs >>= λ v. f (a, v.0) v.1))
      by_space a (Ok zs) = map_bind (λ v. (a, v)) f (q zs)
      by_space a (Err e) = refl

      by_word : (r : Result (A × List ℕ) ℕ) → ((r >>= λ a. (skip_some_at a.1 >>= λ rest. map_at (λ v. (a.0, v)) (q rest))) >>= λ o. f o.0 o.1) ≡ (r >>= λ a. (skip_some_at a.1 >>= λ zs. (q zs >>= λ v. f (a.0, v.0) v.1)))
      by_word (Ok a) = by_space a.0 (skip_some_at a.1)
      by_word (Err e) = refl

      by_dash : (r : Result (List ℕ) ℕ) → ((r >>= λ rest. (p rest >>= λ a. (skip_some_at a.1 >>= λ rest. map_at (λ v. (a.0, v)) (q rest)))) >>= λ o. f o.0 o.1) ≡ (r >>= λ ys. (p ys >>= λ a. (skip_some_at a.1 >>= λ zs. (q zs >>= λ v. f (a.0, v.0) v.1))))
      by_dash (Ok ys) = by_word (p ys)
      by_dash (Err e) = refl

  pub option_reads : (P : Language A) (p : List ℕ → Result (A × List ℕ) ℕ) (Q : Language V) (q : List ℕ → Result (V × List ℕ) ℕ)
      → ((K : A → Language C) (f : A → List ℕ → Result C ℕ) → ((a : A) → Reads (K a) (f a)) → Reads (P ▸ K) (λ xs. p xs >>= λ a. f a.0 a.1))
      → IsReader V C Q q is_digit → ((K : V → Language C) → Apart is_space (Q ▸ K)) → IsReader (A × V) C (option_of P Q) (option_at p q) is_digit
  option_reads P p Q q reads_p reads_q apart K f a r =
      let spaced : (b : A) → Reads (sp1 ▹ Q ▸ λ v. K (b, v)) (λ zs. skip_some_at zs >>= λ ys. (q ys >>= λ v. f (b, v.0) v.1)) =
      λ b. sp1_reads (Q ▸ λ v. K (b, v)) (λ ys. q ys >>= λ v. f (b, v.0) v.1) (apart (λ v. K (b, v))) (reads_q (λ v. K (b, v)) (λ v. f (b, v)) (λ v. a (b, v)) (λ v. r (b, v))) in
      let l = lit_reads (45 ∷ []) (P ▸ λ b. sp1 ▹ Q ▸ λ v. K (b, v)) (λ ys. p ys >>= λ b. (skip_some_at b.1 >>= λ zs. (q zs >>= λ v. f (b.0, v.0) v.1)))
      (reads_p (λ b. sp1 ▹ Q ▸ λ v. K (b, v)) (λ b zs. skip_some_at zs >>= λ ys. (q ys >>= λ v. f (b, v.0) v.1)) spaced) in
      reads_same (opened P Q K) (option_of P Q ▸ K) (option_same P Q K) (λ xs. option_at p q xs >>= λ o. f o.0 o.1)
      (record { live = l.live; settles = λ xs. let R : Result C ℕ → Type 0 = λ z. Settles (opened P Q K) xs z in subst R (sym (option_step p q f xs)) (l.settles xs) })

  pub option_begins : (P : Language A) (Q : Language V) (K : A × V → Language C) → BeginsBy (λ b. b == 45) (option_of P Q ▸ K)
  option_begins P Q K =
      let l = lit_begins 45 [] (P ▸ λ a. sp1 ▹ Q ▸ λ v. K (a, v)) in
      record { some = λ c h. l.some c ((option_same P Q K).1 [] c h); by = λ x e xs c h. l.by x e xs c ((option_same P Q K).1 (x ∷ xs) c h) }

  pub option_apart : (P : Language A) (Q : Language V) (K : A × V → Language C) → Apart is_space (option_of P Q ▸ K)
  option_apart P Q K x t xs c h = lit_apart is_space 45 [] (P ▸ λ a. sp1 ▹ Q ▸ λ v. K (a, v)) refl x t xs c ((option_same P Q K).1 (x ∷ xs) c h)

-- ---- lists of options

-- what reading a list asks of its options and of what follows it
pub record IsListed {A C : Type 0} (option : Language A) (B : List A → Language C) : Type 1 where
  pub begins : (K : A → Language C) → BeginsBy (λ b. b == 45) (option ▸ K)
  pub solid : (K : A → Language C) → Apart is_space (option ▸ K)
  pub no_space : (os : List A) → Apart is_space (B os)
  pub no_dash : (os : List A) → Apart (λ b. b == 45) (B os)
  pub no_digit : (os : List A) → Apart is_digit (B os)

module _ {C : Type 0} where
  space_derives : (B O : Language C) → Never 32 B → Never 32 O → Derives 32 ((sp ▹ B) ⊕ (sp1 ▹ O)) (sp ▹ (O ⊕ B))
  space_derives B O n m = record {
    into = λ xs c h. elim h [
      | inl b ↦ (then_or sp O B).0 xs c (inr ((sp_derives B n).into xs c b))
      | inr o ↦ (then_or sp O B).0 xs c (inl ((lit_nil (sp ▹ O)).1 xs c ((lit_derives 32 [] (sp ▹ O)).into xs c ((sp1_same O).1 (32 ∷ xs) c o))))
    ];
    back = λ xs c h. elim ((then_or sp O B).1 xs c h) [
      | inl o ↦ inr ((sp1_same O).0 (32 ∷ xs) c ((lit_derives 32 [] (sp ▹ O)).back xs c ((lit_nil (sp ▹ O)).0 xs c o)))
      | inr b ↦ inl ((sp_derives B n).back xs c b)
    ];
  }

  sp1_nil : (O : Language C) (c : C) → (sp1 ▹ O) [] c → ⊥
  sp1_nil O c h = (lit_begins 32 [] (sp ▹ O)).some c ((sp1_same O).1 [] c h)

module _ {A C : Type 0} where
  -- the list is closed by spaces and what B says
  abbrev closing : (List A → Language C) → List A → Language C
  closing B os = sp ▹ B os

  up_to_apart : (option : Language A) (B : List A → Language C) → IsListed option B → (k : ℕ) (front : List A) → Apart is_digit (up_to k option front (closing B))
  up_to_apart option B is zero front = sp_apart is_digit (B front) refl (is.no_digit front)
  up_to_apart option B is (suc k) front =
      or_apart is_digit (sp ▹ B front) (sp1 ▹ option ▸ λ o. up_to k option (front ++ o ∷ []) (closing B)) (sp_apart is_digit (B front) refl (is.no_digit front)) (sp1_apart is_digit (option ▸ λ o. up_to k option (front ++ o ∷ []) (closing B)) refl)

  -- one more option, or the end of the list
  abbrev next : (List ℕ → Result (A × List ℕ) ℕ) → (A → List ℕ → Result C ℕ) → (List ℕ → Result C ℕ) → List ℕ → Result C ℕ
  next one more end ys = cond (begins_with (λ b. b == 45) ys) (one ys >>= λ o. more o.0 o.1) (end ys)

  next_settles : (option : Language A) (B : Language C) (K : A → Language C) (one : List ℕ → Result (A × List ℕ) ℕ) (more : A → List ℕ → Result C ℕ) (end : List ℕ → Result C ℕ)
      → BeginsBy (λ b. b == 45) (option ▸ K) → Apart is_space (option ▸ K) → Apart is_space B → Apart (λ b. b == 45) B → Reads (option ▸ K) (λ ys. one ys >>= λ o. more o.0 o.1) → Reads B end
      → (xs : List ℕ) → Settles ((sp ▹ B) ⊕ (sp1 ▹ (option ▸ K))) xs (cond (begins_with is_space xs) (next one more end (skip_at xs)) (end (skip_at xs)))
  next_settles option B K one more end begins solid no_space no_dash reads ends [] =
      same_nil (sp ▹ B) ((sp ▹ B) ⊕ (sp1 ▹ (option ▸ K))) (λ xs c h. inl h) (λ c h. elim h [ inl b ↦ b | inr o ↦ absurd (sp1_nil (option ▸ K) c o) ]) (end []) (sp_settles B end no_space ends [])
  next_settles option B K one more end begins solid no_space no_dash reads ends (x ∷ xs) = by_space (is_space x) refl
    where
      whole : Language C
      whole = (sp ▹ B) ⊕ (sp1 ▹ (option ▸ K))

      by_space : (b : Bool) → is_space x ≡ b → Settles ((sp ▹ B) ⊕ (sp1 ▹ (option ▸ K))) (x ∷ xs) (cond b (next one more end (skip_at (x ∷ xs))) (end (skip_at (x ∷ xs))))
      by_space true e =
          let P : ℕ → Type 0 = λ y. Settles ((sp ▹ B) ⊕ (sp1 ▹ (option ▸ K))) (y ∷ xs) (next one more end (skip_at (y ∷ xs))) in
          subst P (sym (eqb-true x 32 e))
          (step 32 ((sp ▹ B) ⊕ (sp1 ▹ (option ▸ K))) (sp ▹ ((option ▸ K) ⊕ B)) (space_derives B (option ▸ K) (no_space 32 refl) (solid 32 refl)) xs (next one more end (skip_at xs))
          (sp_settles ((option ▸ K) ⊕ B) (next one more end) (or_apart is_space (option ▸ K) B solid no_space)
          (or_reads (λ b. b == 45) (option ▸ K) B (λ ys. one ys >>= λ o. more o.0 o.1) end begins no_dash reads ends) xs))
      by_space false e =
          same_at x (sp ▹ B) ((sp ▹ B) ⊕ (sp1 ▹ (option ▸ K))) (λ ys c h. inl h)
          (λ ys c h. elim h [ inl b ↦ b | inr o ↦ absurd ((lit_begins 32 [] (sp ▹ (option ▸ K))).by x e ys c ((sp1_same (option ▸ K)).1 (x ∷ ys) c o)) ])
          xs (end (skip_at (x ∷ xs))) (sp_settles B end no_space ends (x ∷ xs))

  more_step : (one : List ℕ → Result (A × List ℕ) ℕ) (k : ℕ) (front : List A) (g : List A → List ℕ → Result C ℕ) (xs : List ℕ) (a b : Bool)
      → (cond (a && b) (one (skip_at xs) >>= λ o. more_at one k (front ++ o.0 ∷ []) o.1) (Ok (front, skip_at xs)) >>= λ o. g o.0 o.1)
      ≡ cond a (cond b (one (skip_at xs) >>= λ o. (more_at one k (front ++ o.0 ∷ []) o.1 >>= λ p. g p.0 p.1)) (g front (skip_at xs))) (g front (skip_at xs))
  more_step one k front g xs true true = assoc (one (skip_at xs)) (λ o. more_at one k (front ++ o.0 ∷ []) o.1) (λ p. g p.0 p.1)
  more_step one k front g xs true false = refl
  more_step one k front g xs false b = refl

  more_reads : (option : Language A) (one : List ℕ → Result (A × List ℕ) ℕ) → IsReader A C option one is_digit → (B : List A → Language C) → IsListed option B → (g : List A → List ℕ → Result C ℕ) → ((os : List A) → Reads (B os) (g os))
      → (k : ℕ) (front : List A) → Reads (up_to k option front (closing B)) (λ xs. more_at one k front xs >>= λ o. g o.0 o.1)
  more_reads option one reads B is g ends zero front = sp_reads (B front) (g front) (is.no_space front) (ends front)
  more_reads option one reads B is g ends (suc k) front =
      let more : A → List ℕ → Result C ℕ = λ o ys. more_at one k (front ++ o ∷ []) ys >>= λ p. g p.0 p.1 in
      let K : A → Language C = λ o. up_to k option (front ++ o ∷ []) (closing B) in
      let r : Reads (option ▸ K) (λ ys. one ys >>= λ o. more o.0 o.1) = reads K more (λ o. up_to_apart option B is k (front ++ o ∷ [])) (λ o. more_reads option one reads B is g ends k (front ++ o ∷ [])) in
      let first = sp_reads (B front) (g front) (is.no_space front) (ends front) in
      record {
        live = (first.live.0, first.live.1, inl first.live.2);
        settles = λ xs.
            let P : Result C ℕ → Type 0 = λ z. Settles (up_to (suc k) option front (closing B)) xs z in
            subst P (sym (more_step one k front g xs (begins_with is_space xs) (begins_with (λ b. b == 45) (skip_at xs))))
            (next_settles option (B front) K one more (g front) (is.begins K) (is.solid K) (is.no_space front) (is.no_dash front) r (ends front) xs);
      }

  pub options_reads : (option : Language A) (one : List ℕ → Result (A × List ℕ) ℕ) → IsReader A C option one is_digit → (B : List A → Language C) → IsListed option B → (g : List A → List ℕ → Result C ℕ) → ((os : List A) → Reads (B os) (g os))
      → Reads (options option (λ os. sp ▹ B os)) (λ xs. options_at one xs >>= λ o. g o.0 o.1)
  unfolding options options_at
  options_reads option one reads B is g ends =
      let r = reads (λ o. up_to 7 option (o ∷ []) (closing B)) (λ o ys. more_at one 7 (o ∷ []) ys >>= λ p. g p.0 p.1) (λ o. up_to_apart option B is 7 (o ∷ [])) (λ o. more_reads option one reads B is g ends 7 (o ∷ [])) in
      record {
        live = r.live;
        settles = λ xs.
            let P : Result C ℕ → Type 0 = λ z. Settles (option ▸ λ o. up_to 7 option (o ∷ []) (closing B)) xs z in
            subst P (sym (assoc (one xs) (λ o. more_at one 7 (o.0 ∷ []) o.1) (λ p. g p.0 p.1))) (r.settles xs);
      }

  pub options_apart : (option : Language A) (B : List A → Language C) → IsListed option B → Apart is_space (options option (λ os. sp ▹ B os))
  unfolding options
  options_apart option B is = is.solid (λ o. up_to 7 option (o ∷ []) (closing B))

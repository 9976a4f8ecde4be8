-- Reading of the small parts: words, spaces, runs of bytes, names and numbers, each before something that goes on.
use Rattle.std.proofs.Common.{◌≡◌, ℕ, zero, suc, ◌≤◌, Bool, true, false, cond, ◌&&◌, leb, ltb, ◌==◌, List, [], ◌∷◌, ◌++◌, length, take, drop, Result, Ok, Err, ◌⊎◌, refl, sym, ap, subst, ◌∙◌, inl, inr, arith, ℤ, pos, neg_ℤ}
use Rattle.std.specs.List.{list_all}
use Rattle.std.proofs.lemmas.Bool.{eqb-true, eqb-false, and_parts, and_from, false≢true, both_ways, le-leb, leb-true, lt-ltb}
use Rattle.kind_core.specs.Bytes.{is_digit, is_letter, is_name_byte}
use Rattle.cmd_words.specs.Language.{Language, ◌▹◌, ◌▸◌, ◌⊕◌, stands_for, word}
use Rattle.cmd_words.specs.Productions.{is_space, sp, sp1, name, number_of, count, number}
use Rattle.cmd_text.specs.Reading.{◌>>=◌, expect_at, skip_at, skip_some_at, run_len, begins_with, first_and_run, cut_run, map_at, minus, name_at, count_at, number_at}
use Rattle.cmd_text.proofs.Settling.{Live, Settles, Reads, Within, Same, Derives, Never, Apart, heads, tails, step, stop, ends, same_at, same_nil, settles_same, reads_same}
use Rattle.cmd_text.proofs.Joins.{same_trans, with_or, with_then, with_with, with_stands, same_or, same_then, same_with}

-- a first byte that may be first, and then at most k that pass
abbrev pub first_ok : (ℕ → Bool) → (ℕ → Bool) → ℕ → List ℕ → Bool
first_ok first test k [] = false
first_ok first test k (x ∷ u) = first x && leb (length u) k && list_all test u

-- P are such words, and v gives what they stand for
pub record IsFirstRun {A : Type 0} (first test : ℕ → Bool) (k : ℕ) (v : List ℕ → A) (P : Language A) : Type 0 where
  pub passes : (u : List ℕ) (a : A) → P u a → first_ok first test k u ≡ true
  pub value : (u : List ℕ) (a : A) → P u a → v u ≡ a
  pub makes : (u : List ℕ) → first_ok first test k u ≡ true → P u (v u)
  pub one : ℕ
  pub one_passes : first one ≡ true

first_nil : (first test : ℕ → Bool) (k : ℕ) (front after : List ℕ) → [] ≡ front ++ after → first_ok first test k front ≡ true → ⊥
first_nil first test k [] after e p = false≢true p
first_nil first test k (x ∷ front) after e p = cc

-- the word w, and then K
abbrev pub Lit : {C : Type 0} → List ℕ → Language C → Language C
Lit w K = (λ u. u ≡ w) ▹ K

module _ {C : Type 0} where
  pub lit_nil : (K : Language C) → Same K (Lit [] K)
  lit_nil K = (
    λ xs c h. record { front = []; after = xs; split = refl; word = refl; goes_on = h },
    λ xs c h. let P : List ℕ → Type 0 = λ ys. K ys c in subst P (sym (h.split ∙ ap (λ (u : List ℕ). u ++ h.after) h.word)) h.goes_on,
  )

  pub lit_derives : (w : ℕ) (ws : List ℕ) (K : Language C) → Derives w (Lit (w ∷ ws) K) (Lit ws K)
  lit_derives w ws K = record {
    into = λ xs c h. record { front = ws; after = h.after; split = tails w w xs (ws ++ h.after) (h.split ∙ ap (λ (u : List ℕ). u ++ h.after) h.word); word = refl; goes_on = h.goes_on };
    back = λ xs c h. record { front = w ∷ ws; after = h.after; split = ap (λ (u : List ℕ). w ∷ u) (h.split ∙ ap (λ (u : List ℕ). u ++ h.after) h.word); word = refl; goes_on = h.goes_on };
  }

  lit_never : (w x : ℕ) (ws : List ℕ) (K : Language C) → (x ≡ w → ⊥) → Never x (Lit (w ∷ ws) K)
  lit_never w x ws K n xs c h = n (heads x w xs (ws ++ h.after) (h.split ∙ ap (λ (u : List ℕ). u ++ h.after) h.word))

  lit_not_nil : (w : ℕ) (ws : List ℕ) (K : Language C) → (c : C) → Lit (w ∷ ws) K [] c → ⊥
  lit_not_nil w ws K c h =
      let e : [] ≡ w ∷ (ws ++ h.after) = h.split ∙ ap (λ (u : List ℕ). u ++ h.after) h.word in cc

  pub lit_live : (w : List ℕ) (K : Language C) → Live K → Live (Lit w K)
  lit_live w K live = (w ++ live.0, live.1, record { front = w; after = live.0; split = refl; word = refl; goes_on = live.2 })

  lit_byte : (w x : ℕ) (ws : List ℕ) (K : Language C) (f : List ℕ → Result C ℕ) → Reads K f → (xs : List ℕ) → Settles (Lit ws K) xs (expect_at ws xs >>= f) → (b : Bool) → (x == w) ≡ b → Settles (Lit (w ∷ ws) K) (x ∷ xs) (cond b (expect_at ws xs) (Err (length (x ∷ xs))) >>= f)
  lit_byte w x ws K f r xs s true e =
      let P : ℕ → Type 0 = λ y. Settles (Lit (w ∷ ws) K) (y ∷ xs) (expect_at ws xs >>= f) in
      subst P (sym (eqb-true x w e)) (step w (Lit (w ∷ ws) K) (Lit ws K) (lit_derives w ws K) xs (expect_at ws xs >>= f) s)
  lit_byte w x ws K f r xs s false e =
      stop x (Lit (w ∷ ws) K) (lit_live (w ∷ ws) K r.live) (lit_never w x ws K (eqb-false x w e)) xs

  pub lit_settles : (w : List ℕ) (K : Language C) (f : List ℕ → Result C ℕ) → Reads K f → (xs : List ℕ) → Settles (Lit w K) xs (expect_at w xs >>= f)
  lit_settles [] K f r xs = settles_same K (Lit [] K) (lit_nil K) xs (f xs) (r.settles xs)
  lit_settles (w ∷ ws) K f r [] = ends (Lit (w ∷ ws) K) (lit_live (w ∷ ws) K r.live) (lit_not_nil w ws K)
  lit_settles (w ∷ ws) K f r (x ∷ xs) = lit_byte w x ws K f r xs (lit_settles ws K f r xs) (x == w) refl

  pub lit_reads : (w : List ℕ) (K : Language C) (f : List ℕ → Result C ℕ) → Reads K f → Reads (Lit w K) (λ xs. expect_at w xs >>= f)
  lit_reads w K f r = record { live = lit_live w K r.live; settles = lit_settles w K f r }

  pub lit_apart : (test : ℕ → Bool) (w : ℕ) (ws : List ℕ) (K : Language C) → test w ≡ false → Apart test (Lit (w ∷ ws) K)
  lit_apart test w ws K e x t = lit_never w x ws K (λ eq. both_ways (test w) e (ap test (sym eq) ∙ t))

  -- ---- spaces

  pub sp_live : (K : Language C) → Live K → Live (sp ▹ K)
  sp_live K live = (live.0, live.1, record { front = []; after = live.0; split = refl; word = refl; goes_on = live.2 })

  sp_within : (K : Language C) → Within K (sp ▹ K)
  sp_within K xs c h = record { front = []; after = xs; split = refl; word = refl; goes_on = h }

  -- the word begins with x: what is left after it, where its front is not empty
  sp_into : (K : Language C) (x : ℕ) (xs : List ℕ) (c : C) (front after : List ℕ) → x ∷ xs ≡ front ++ after → sp front → K after c → (K (x ∷ xs) c) ⊎ ((is_space x ≡ true) × (sp ▹ K) xs c)
  sp_into K x xs c [] after e s k = let P : List ℕ → Type 0 = λ ys. K ys c in inl (subst P (sym e) k)
  sp_into K x xs c (y ∷ front) after e s k =
      let P : ℕ → Type 0 = λ z. is_space z ≡ true in
      let p = and_parts (is_space y) (list_all is_space front) s in
      inr (subst P (sym (heads x y xs (front ++ after) e)) p.0, record { front = front; after = after; split = tails x y xs (front ++ after) e; word = p.1; goes_on = k })

  pub sp_derives : (K : Language C) → Never 32 K → Derives 32 (sp ▹ K) (sp ▹ K)
  sp_derives K n = record {
    into = λ xs c h. elim (sp_into K 32 xs c h.front h.after h.split h.word h.goes_on) [ inl k ↦ absurd (n xs c k) | inr p ↦ p.1 ];
    back = λ xs c h. record { front = 32 ∷ h.front; after = h.after; split = ap (λ (u : List ℕ). 32 ∷ u) h.split; word = h.word; goes_on = h.goes_on };
  }

  sp_nil_front : (K : Language C) (c : C) (front after : List ℕ) → [] ≡ front ++ after → K after c → K [] c
  sp_nil_front K c [] after e k = let P : List ℕ → Type 0 = λ ys. K ys c in subst P (sym e) k
  sp_nil_front K c (y ∷ front) after e k = absurd cc

  sp_byte : (K : Language C) (f : List ℕ → Result C ℕ) → Apart is_space K → Reads K f → (x : ℕ) (xs : List ℕ) → Settles (sp ▹ K) xs (f (skip_at xs)) → (b : Bool) → is_space x ≡ b → Settles (sp ▹ K) (x ∷ xs) (f (cond b (skip_at xs) (x ∷ xs)))
  sp_byte K f a r x xs s true e =
      let P : ℕ → Type 0 = λ y. Settles (sp ▹ K) (y ∷ xs) (f (skip_at xs)) in
      subst P (sym (eqb-true x 32 e)) (step 32 (sp ▹ K) (sp ▹ K) (sp_derives K (a 32 refl)) xs (f (skip_at xs)) s)
  sp_byte K f a r x xs s false e =
      same_at x K (sp ▹ K) (sp_within K) (λ ys c h. elim (sp_into K x ys c h.front h.after h.split h.word h.goes_on) [ inl k ↦ k | inr p ↦ absurd (both_ways (is_space x) e p.0) ]) xs (f (x ∷ xs)) (r.settles (x ∷ xs))

  pub sp_settles : (K : Language C) (f : List ℕ → Result C ℕ) → Apart is_space K → Reads K f → (xs : List ℕ) → Settles (sp ▹ K) xs (f (skip_at xs))
  sp_settles K f a r [] = same_nil K (sp ▹ K) (sp_within K) (λ c h. sp_nil_front K c h.front h.after h.split h.goes_on) (f []) (r.settles [])
  sp_settles K f a r (x ∷ xs) = sp_byte K f a r x xs (sp_settles K f a r xs) (is_space x) refl

  pub sp_reads : (K : Language C) (f : List ℕ → Result C ℕ) → Apart is_space K → Reads K f → Reads (sp ▹ K) (λ xs. f (skip_at xs))
  sp_reads K f a r = record { live = sp_live K r.live; settles = sp_settles K f a r }

  pub sp_apart : (test : ℕ → Bool) (K : Language C) → test 32 ≡ false → Apart test K → Apart test (sp ▹ K)
  sp_apart test K e a x t xs c h =
      elim (sp_into K x xs c h.front h.after h.split h.word h.goes_on) [
        | inl k ↦ a x t xs c k
        | inr p ↦ both_ways (test 32) e (ap test (sym (eqb-true x 32 p.0)) ∙ t)
      ]

  sp1_front : (K : Language C) (xs : List ℕ) (c : C) (front after : List ℕ) → xs ≡ front ++ after → sp1 front → K after c → Lit (32 ∷ []) (sp ▹ K) xs c
  sp1_front K xs c [] after e s k = absurd (false≢true s)
  sp1_front K xs c (y ∷ front) after e s k =
      let p = and_parts (ltb 0 (length (y ∷ front))) (list_all is_space (y ∷ front)) s in
      let q = and_parts (is_space y) (list_all is_space front) p.1 in
      record {
        front = 32 ∷ [];
        after = front ++ after;
        split = e ∙ ap (λ (z : ℕ). z ∷ (front ++ after)) (eqb-true y 32 q.0);
        word = refl;
        goes_on = record { front = front; after = after; split = refl; word = q.1; goes_on = k };
      }

  pub sp1_same : (K : Language C) → Same (Lit (32 ∷ []) (sp ▹ K)) (sp1 ▹ K)
  sp1_same K = (
    λ xs c h. record {
      front = 32 ∷ h.goes_on.front;
      after = h.goes_on.after;
      split = h.split ∙ ap (λ (u : List ℕ). u ++ h.after) h.word ∙ ap (λ (u : List ℕ). 32 ∷ u) h.goes_on.split;
      word = and_from _ _ (lt-ltb 0 (length (32 ∷ h.goes_on.front)) (omega arith)) h.goes_on.word;
      goes_on = h.goes_on.goes_on;
    },
    λ xs c h. sp1_front K xs c h.front h.after h.split h.word h.goes_on,
  )

  bind_ok : (r : Result (List ℕ) ℕ) (g : List ℕ → List ℕ) (f : List ℕ → Result C ℕ) → ((r >>= λ rest. Ok (g rest)) >>= f) ≡ (r >>= λ rest. f (g rest))
  bind_ok (Ok x) g f = refl
  bind_ok (Err e) g f = refl

  pub sp1_reads : (K : Language C) (f : List ℕ → Result C ℕ) → Apart is_space K → Reads K f → Reads (sp1 ▹ K) (λ xs. skip_some_at xs >>= f)
  sp1_reads K f a r =
      let g : List ℕ → Result C ℕ = λ xs. f (skip_at xs) in
      reads_same (Lit (32 ∷ []) (sp ▹ K)) (sp1 ▹ K) (sp1_same K) (λ xs. skip_some_at xs >>= f)
      (let l = lit_reads (32 ∷ []) (sp ▹ K) g (sp_reads K f a r) in
      record { live = l.live; settles = λ xs. let P : Result C ℕ → Type 0 = λ z. Settles (Lit (32 ∷ []) (sp ▹ K)) xs z in subst P (sym (bind_ok (expect_at (32 ∷ []) xs) skip_at f)) (l.settles xs) })

  pub sp1_apart : (test : ℕ → Bool) (K : Language C) → test 32 ≡ false → Apart test (sp1 ▹ K)
  sp1_apart test K e x t xs c h = lit_apart test 32 [] (sp ▹ K) e x t xs c ((sp1_same K).1 (x ∷ xs) c h)

  -- ---- a run of bytes that pass, at most k of them; what goes on may ask which they were

  pub record RunOf (test : ℕ → Bool) (k : ℕ) (K : List ℕ → Language C) (xs : List ℕ) (c : C) : Type 0 where
    pub run : List ℕ
    pub after : List ℕ
    pub split : xs ≡ run ++ after
    pub short : length run ≤ k
    pub passes : list_all test run ≡ true
    pub goes_on : K run after c

  run_within : (test : ℕ → Bool) (k : ℕ) (K : List ℕ → Language C) → Within (K []) (RunOf test k K)
  run_within test k K xs c h = record { run = []; after = xs; split = refl; short = omega arith; passes = refl; goes_on = h }

  pub run_live : (test : ℕ → Bool) (k : ℕ) (K : List ℕ → Language C) → Live (K []) → Live (RunOf test k K)
  run_live test k K live = (live.0, live.1, run_within test k K _ _ live.2)

  run_into : (test : ℕ → Bool) (k : ℕ) (K : List ℕ → Language C) (x : ℕ) (xs : List ℕ) (c : C) (run after : List ℕ) → x ∷ xs ≡ run ++ after → length run ≤ suc k → list_all test run ≡ true → K run after c → (K [] (x ∷ xs) c) ⊎ ((test x ≡ true) × RunOf test k (λ u. K (x ∷ u)) xs c)
  run_into test k K x xs c [] after e s p h = let P : List ℕ → Type 0 = λ ys. K [] ys c in inl (subst P (sym e) h)
  run_into test k K x xs c (y ∷ run) after e s p h =
      let P : ℕ → Type 0 = λ z. test z ≡ true in
      let Q : ℕ → Type 0 = λ z. K (z ∷ run) after c in
      let q = and_parts (test y) (list_all test run) p in
      let eq : y ≡ x = sym (heads x y xs (run ++ after) e) in
      inr (subst P eq q.0, record { run = run; after = after; split = tails x y xs (run ++ after) e; short = omega (arith, s); passes = q.1; goes_on = subst Q eq h })

  run_nil : (test : ℕ → Bool) (K : List ℕ → Language C) (c : C) (run after : List ℕ) → [] ≡ run ++ after → K run after c → K [] [] c
  run_nil test K c [] after e h = let P : List ℕ → Type 0 = λ ys. K [] ys c in subst P (sym e) h
  run_nil test K c (y ∷ run) after e h = absurd cc

  run_none : (test : ℕ → Bool) (K : List ℕ → Language C) (xs : List ℕ) (c : C) (run after : List ℕ) → xs ≡ run ++ after → length run ≤ 0 → K run after c → K [] xs c
  run_none test K xs c [] after e s h = let P : List ℕ → Type 0 = λ ys. K [] ys c in subst P (sym e) h
  run_none test K xs c (y ∷ run) after e s h = absurd (omega (arith, s))

  run_derives : (test : ℕ → Bool) (k : ℕ) (K : List ℕ → Language C) (x : ℕ) → test x ≡ true → Never x (K []) → Derives x (RunOf test (suc k) K) (RunOf test k (λ u. K (x ∷ u)))
  run_derives test k K x t n = record {
    into = λ xs c h. elim (run_into test k K x xs c h.run h.after h.split h.short h.passes h.goes_on) [ inl m ↦ absurd (n xs c m) | inr p ↦ p.1 ];
    back = λ xs c h. record { run = x ∷ h.run; after = h.after; split = ap (λ (u : List ℕ). x ∷ u) h.split; short = omega (arith, h.short); passes = and_from (test x) (list_all test h.run) t h.passes; goes_on = h.goes_on };
  }

  abbrev pub ran : (ℕ → Bool) → ℕ → (List ℕ → List ℕ → Result C ℕ) → List ℕ → Result C ℕ
  ran test k f xs = f (take (run_len test k xs) xs) (drop (run_len test k xs) xs)

  run_byte : (test : ℕ → Bool) (k : ℕ) (K : List ℕ → Language C) (f : List ℕ → List ℕ → Result C ℕ) → ((u : List ℕ) → Apart test (K u)) → Reads (K []) (f []) → (x : ℕ) (xs : List ℕ)
      → Settles (RunOf test k (λ u. K (x ∷ u))) xs (ran test k (λ u v. f (x ∷ u) v) xs) → (b : Bool) → test x ≡ b
      → Settles (RunOf test (suc k) K) (x ∷ xs) (f (take (cond b (suc (run_len test k xs)) 0) (x ∷ xs)) (drop (cond b (suc (run_len test k xs)) 0) (x ∷ xs)))
  run_byte test k K f a r x xs s true e = step x (RunOf test (suc k) K) (RunOf test k (λ u. K (x ∷ u))) (run_derives test k K x e (a [] x e)) xs (ran test k (λ u v. f (x ∷ u) v) xs) s
  run_byte test k K f a r x xs s false e =
      same_at x (K []) (RunOf test (suc k) K) (run_within test (suc k) K)
      (λ ys c h. elim (run_into test k K x ys c h.run h.after h.split h.short h.passes h.goes_on) [ inl m ↦ m | inr p ↦ absurd (both_ways (test x) e p.0) ])
      xs (f [] (x ∷ xs)) (r.settles (x ∷ xs))

  pub run_settles : (test : ℕ → Bool) (k : ℕ) (K : List ℕ → Language C) (f : List ℕ → List ℕ → Result C ℕ) → ((u : List ℕ) → Apart test (K u)) → ((u : List ℕ) → Reads (K u) (f u)) → (xs : List ℕ) → Settles (RunOf test k K) xs (ran test k f xs)
  run_settles test zero K f a r xs =
      settles_same (K []) (RunOf test 0 K) (run_within test 0 K, λ ys c h. run_none test K ys c h.run h.after h.split h.short h.goes_on) xs (f [] xs) ((r []).settles xs)
  run_settles test (suc k) K f a r [] =
      same_nil (K []) (RunOf test (suc k) K) (run_within test (suc k) K) (λ c h. run_nil test K c h.run h.after h.split h.goes_on) (f [] []) ((r []).settles [])
  run_settles test (suc k) K f a r (x ∷ xs) =
      run_byte test k K f a (r []) x xs (run_settles test k (λ u. K (x ∷ u)) (λ u v. f (x ∷ u) v) (λ u. a (x ∷ u)) (λ u. r (x ∷ u)) xs) (test x) refl

  -- ---- a first byte and a run of others: names and counts

  module _ {A : Type 0} where
    first_into : (first test : ℕ → Bool) (k : ℕ) (v : List ℕ → A) (K : A → Language C) (x : ℕ) (xs : List ℕ) (c : C) (front after : List ℕ) → x ∷ xs ≡ front ++ after → first_ok first test k front ≡ true → K (v front) after c → (first x ≡ true) × RunOf test k (λ u. K (v (x ∷ u))) xs c
    first_into first test k v K x xs c [] after e p h = absurd (false≢true p)
    first_into first test k v K x xs c (y ∷ u) after e p h =
        let q = and_parts (first y && leb (length u) k) (list_all test u) p in
        let r = and_parts (first y) (leb (length u) k) q.0 in
        let eq : y ≡ x = sym (heads x y xs (u ++ after) e) in
        let P : ℕ → Type 0 = λ z. first z ≡ true in
        let Q : ℕ → Type 0 = λ z. K (v (z ∷ u)) after c in
        (subst P eq r.0, record { run = u; after = after; split = tails x y xs (u ++ after) e; short = leb-true (length u) k r.1; passes = q.1; goes_on = subst Q eq h })

    first_split : (first test : ℕ → Bool) (k : ℕ) (v : List ℕ → A) (P : Language A) → IsFirstRun first test k v P → (K : A → Language C) (x : ℕ) (xs : List ℕ) (c : C) → (P ▸ K) (x ∷ xs) c → (first x ≡ true) × RunOf test k (λ u. K (v (x ∷ u))) xs c
    first_split first test k v P is K x xs c h =
        let Q : A → Type 0 = λ a. K a h.after c in
        first_into first test k v K x xs c h.front h.after h.split (is.passes h.front h.value h.stands) (subst Q (sym (is.value h.front h.value h.stands)) h.goes_on)

    first_derives : (first test : ℕ → Bool) (k : ℕ) (v : List ℕ → A) (P : Language A) → IsFirstRun first test k v P → (K : A → Language C) (x : ℕ) → first x ≡ true → Derives x (P ▸ K) (RunOf test k (λ u. K (v (x ∷ u))))
    first_derives first test k v P is K x t = record {
      into = λ xs c h. (first_split first test k v P is K x xs c h).1;
      back = λ xs c h. record {
        front = x ∷ h.run;
        after = h.after;
        value = v (x ∷ h.run);
        split = ap (λ (u : List ℕ). x ∷ u) h.split;
        stands = is.makes (x ∷ h.run) (and_from _ _ (and_from _ _ t (le-leb (length h.run) k h.short)) h.passes);
        goes_on = h.goes_on;
      };
    }

    first_live : (first test : ℕ → Bool) (k : ℕ) (v : List ℕ → A) (P : Language A) → IsFirstRun first test k v P → (K : A → Language C) → ((a : A) → Live (K a)) → Live (P ▸ K)
    first_live first test k v P is K live =
        let w : List ℕ = is.one ∷ [] in
        let l : Live (K (v w)) = live (v w) in
        (w ++ l.0, l.1, record { front = w; after = l.0; value = v w; split = refl; stands = is.makes w (and_from _ _ (and_from _ _ is.one_passes (le-leb 0 k (omega arith))) refl); goes_on = l.2 })

    first_byte : (first test : ℕ → Bool) (k : ℕ) (v : List ℕ → A) (P : Language A) → IsFirstRun first test k v P → (K : A → Language C) (f : A → List ℕ → Result C ℕ) → ((a : A) → Apart test (K a)) → ((a : A) → Reads (K a) (f a))
        → (x : ℕ) (xs : List ℕ) (b : Bool) → first x ≡ b → Settles (P ▸ K) (x ∷ xs) (cond b (Ok (cut_run test k v x xs)) (Err (length (x ∷ xs))) >>= λ y. f y.0 y.1)
    first_byte first test k v P is K f a r x xs true e =
        step x (P ▸ K) (RunOf test k (λ u. K (v (x ∷ u)))) (first_derives first test k v P is K x e) xs (ran test k (λ u. f (v (x ∷ u))) xs)
        (run_settles test k (λ u. K (v (x ∷ u))) (λ u. f (v (x ∷ u))) (λ u. a (v (x ∷ u))) (λ u. r (v (x ∷ u))) xs)
    first_byte first test k v P is K f a r x xs false e =
        stop x (P ▸ K) (first_live first test k v P is K (λ b. (r b).live)) (λ ys c h. both_ways (first x) e (first_split first test k v P is K x ys c h).0) xs

    first_settles : (first test : ℕ → Bool) (k : ℕ) (v : List ℕ → A) (P : Language A) → IsFirstRun first test k v P → (K : A → Language C) (f : A → List ℕ → Result C ℕ) → ((a : A) → Apart test (K a)) → ((a : A) → Reads (K a) (f a))
        → (xs : List ℕ) → Settles (P ▸ K) xs (first_and_run first test k v xs >>= λ y. f y.0 y.1)
    first_settles first test k v P is K f a r [] =
        ends (P ▸ K) (first_live first test k v P is K (λ b. (r b).live)) (λ c h. first_nil first test k h.front h.after h.split (is.passes h.front h.value h.stands))
    first_settles first test k v P is K f a r (x ∷ xs) = first_byte first test k v P is K f a r x xs (first x) refl

    pub first_reads : (first test : ℕ → Bool) (k : ℕ) (v : List ℕ → A) (P : Language A) → IsFirstRun first test k v P → (K : A → Language C) (f : A → List ℕ → Result C ℕ) → ((a : A) → Apart test (K a)) → ((a : A) → Reads (K a) (f a))
        → Reads (P ▸ K) (λ xs. first_and_run first test k v xs >>= λ y. f y.0 y.1)
    first_reads first test k v P is K f a r = record { live = first_live first test k v P is K (λ b. (r b).live); settles = first_settles first test k v P is K f a r }

    pub first_apart : (first test other : ℕ → Bool) (k : ℕ) (v : List ℕ → A) (P : Language A) → IsFirstRun first test k v P → ((x : ℕ) → other x ≡ true → first x ≡ false) → (K : A → Language C) → Apart other (P ▸ K)
    first_apart first test other k v P is apart K x t xs c h = both_ways (first x) (apart x t) (first_split first test k v P is K x xs c h).0

  -- ---- one of two, told apart by the next byte

  pub record BeginsBy (test : ℕ → Bool) (A : Language C) : Type 0 where
    pub some : (c : C) → A [] c → ⊥
    pub by : (x : ℕ) → test x ≡ false → Never x A

  pub lit_begins : (w : ℕ) (ws : List ℕ) (K : Language C) → BeginsBy (λ b. b == w) (Lit (w ∷ ws) K)
  lit_begins w ws K = record { some = lit_not_nil w ws K; by = λ x e. lit_never w x ws K (eqb-false x w e) }

  or_byte : (test : ℕ → Bool) (A B : Language C) (f g : List ℕ → Result C ℕ) → BeginsBy test A → Apart test B → Reads A f → Reads B g → (x : ℕ) (xs : List ℕ) (b : Bool) → test x ≡ b → Settles (A ⊕ B) (x ∷ xs) (cond b (f (x ∷ xs)) (g (x ∷ xs)))
  or_byte test A B f g s a r q x xs true e =
      same_at x A (A ⊕ B) (λ ys c h. inl h) (λ ys c h. elim h [ inl m ↦ m | inr m ↦ absurd (a x e ys c m) ]) xs (f (x ∷ xs)) (r.settles (x ∷ xs))
  or_byte test A B f g s a r q x xs false e =
      same_at x B (A ⊕ B) (λ ys c h. inr h) (λ ys c h. elim h [ inl m ↦ absurd (s.by x e ys c m) | inr m ↦ m ]) xs (g (x ∷ xs)) (q.settles (x ∷ xs))

  or_settles : (test : ℕ → Bool) (A B : Language C) (f g : List ℕ → Result C ℕ) → BeginsBy test A → Apart test B → Reads A f → Reads B g → (xs : List ℕ) → Settles (A ⊕ B) xs (cond (begins_with test xs) (f xs) (g xs))
  or_settles test A B f g s a r q [] =
      same_nil B (A ⊕ B) (λ ys c h. inr h) (λ c h. elim h [ inl m ↦ absurd (s.some c m) | inr m ↦ m ]) (g []) (q.settles [])
  or_settles test A B f g s a r q (x ∷ xs) = or_byte test A B f g s a r q x xs (test x) refl

  pub or_reads : (test : ℕ → Bool) (A B : Language C) (f g : List ℕ → Result C ℕ) → BeginsBy test A → Apart test B → Reads A f → Reads B g → Reads (A ⊕ B) (λ xs. cond (begins_with test xs) (f xs) (g xs))
  or_reads test A B f g s a r q = record { live = (r.live.0, r.live.1, inl r.live.2); settles = or_settles test A B f g s a r q }

  pub or_apart : (test : ℕ → Bool) (A B : Language C) → Apart test A → Apart test B → Apart test (A ⊕ B)
  or_apart test A B a b x t xs c h = elim h [ inl m ↦ a x t xs c m | inr m ↦ b x t xs c m ]

-- no space is a letter or a digit
letter_not_space : (x : ℕ) → is_space x ≡ true → is_letter x ≡ false
letter_not_space x e = ap is_letter (eqb-true x 32 e)

digit_not_space : (x : ℕ) → is_space x ≡ true → is_digit x ≡ false
digit_not_space x e = ap is_digit (eqb-true x 32 e)

digit_not_quote : (x : ℕ) → (x == 34) ≡ true → is_digit x ≡ false
digit_not_quote x e = ap is_digit (eqb-true x 34 e)

digit_not_minus : (x : ℕ) → (x == 45) ≡ true → is_digit x ≡ false
digit_not_minus x e = ap is_digit (eqb-true x 45 e)

name_passes : (u n : List ℕ) → name u n → first_ok is_letter is_name_byte 15 u ≡ true
name_passes [] n h = h.1
name_passes (x ∷ u) n h = h.1

name_makes : (u : List ℕ) → first_ok is_letter is_name_byte 15 u ≡ true → name u u
name_makes [] h = (refl, h)
name_makes (x ∷ u) h = (refl, h)

pub name_is : IsFirstRun is_letter is_name_byte 15 (λ u. u) name
name_is = record { passes = name_passes; value = λ u n h. h.0; makes = name_makes; one = 97; one_passes = refl }

count_passes : (u : List ℕ) (n : ℕ) → count u n → first_ok is_digit is_digit 6 u ≡ true
count_passes [] n h = h.0
count_passes (x ∷ u) n h = h.0

count_makes : (u : List ℕ) → first_ok is_digit is_digit 6 u ≡ true → count u (number_of u)
count_makes [] h = (h, refl)
count_makes (x ∷ u) h = (h, refl)

pub count_is : IsFirstRun is_digit is_digit 6 number_of count
count_is = record { passes = count_passes; value = λ u n h. sym h.1; makes = count_makes; one = 48; one_passes = refl }

module _ {C : Type 0} where
  pub name_reads : (K : List ℕ → Language C) (f : List ℕ → List ℕ → Result C ℕ) → ((n : List ℕ) → Apart is_name_byte (K n)) → ((n : List ℕ) → Reads (K n) (f n)) → Reads (name ▸ K) (λ xs. name_at xs >>= λ n. f n.0 n.1)
  unfolding name_at
  name_reads K f a r = first_reads is_letter is_name_byte 15 (λ u. u) name name_is K f a r

  pub name_apart : (K : List ℕ → Language C) → Apart is_space (name ▸ K)
  name_apart K = first_apart is_letter is_name_byte is_space 15 (λ u. u) name name_is letter_not_space K

  pub count_reads : (K : ℕ → Language C) (f : ℕ → List ℕ → Result C ℕ) → ((n : ℕ) → Apart is_digit (K n)) → ((n : ℕ) → Reads (K n) (f n)) → Reads (count ▸ K) (λ xs. count_at xs >>= λ n. f n.0 n.1)
  unfolding count_at
  count_reads K f a r = first_reads is_digit is_digit 6 number_of count count_is K f a r

  count_not_quote : (K : ℕ → Language C) → Apart (λ b. b == 34) (count ▸ K)
  count_not_quote K = first_apart is_digit is_digit (λ b. b == 34) 6 number_of count count_is digit_not_quote K

  pub count_apart : (K : ℕ → Language C) → Apart is_space (count ▸ K)
  count_apart K = first_apart is_digit is_digit is_space 6 number_of count count_is digit_not_space K

  count_not_minus : (K : ℕ → Language C) → Apart (λ b. b == 45) (count ▸ K)
  count_not_minus K = first_apart is_digit is_digit (λ b. b == 45) 6 number_of count count_is digit_not_minus K

  -- the two ways to write a number
  abbrev signed : (K : ℤ → Language C) → Language C
  signed K = Lit (45 ∷ []) (count ▸ λ n. K (neg_ℤ (pos n))) ⊕ (count ▸ λ n. K (pos n))

  signed_same : (K : ℤ → Language C) → Same (signed K) (number ▸ K)
  signed_same K =
      let minus : Language ℤ = word "-" ▹ count ▸ λ n. stands_for (neg_ℤ (pos n)) in
      let plus : Language ℤ = count ▸ λ n. stands_for (pos n) in
      let back : Same (number ▸ K) (signed K) =
      same_trans (number ▸ K) ((minus ▸ K) ⊕ (plus ▸ K)) (signed K) (with_or minus plus K)
      (same_or (minus ▸ K) (plus ▸ K) (Lit (45 ∷ []) (count ▸ λ n. K (neg_ℤ (pos n)))) (count ▸ λ n. K (pos n))
      (same_trans (minus ▸ K) (word "-" ▹ ((count ▸ λ n. stands_for (neg_ℤ (pos n))) ▸ K)) (Lit (45 ∷ []) (count ▸ λ n. K (neg_ℤ (pos n))))
      (with_then (word "-") (count ▸ λ n. stands_for (neg_ℤ (pos n))) K)
      (same_then (word "-") ((count ▸ λ n. stands_for (neg_ℤ (pos n))) ▸ K) (count ▸ λ n. K (neg_ℤ (pos n)))
      (same_trans ((count ▸ λ n. stands_for (neg_ℤ (pos n))) ▸ K) (count ▸ λ n. (stands_for (neg_ℤ (pos n)) ▸ K)) (count ▸ λ n. K (neg_ℤ (pos n)))
      (with_with count (λ n. stands_for (neg_ℤ (pos n))) K)
      (same_with count (λ n. (stands_for (neg_ℤ (pos n)) ▸ K)) (λ n. K (neg_ℤ (pos n))) (λ n. with_stands (neg_ℤ (pos n)) K)))))
      (same_trans (plus ▸ K) (count ▸ λ n. (stands_for (pos n) ▸ K)) (count ▸ λ n. K (pos n))
      (with_with count (λ n. stands_for (pos n)) K)
      (same_with count (λ n. (stands_for (pos n) ▸ K)) (λ n. K (pos n)) (λ n. with_stands (pos n) K)))) in
      (back.1, back.0)

  pub map_bind : {A B : Type 0} (g : A → B) (f : B → List ℕ → Result C ℕ) (r : Result (A × List ℕ) ℕ) → (map_at g r >>= λ z. f z.0 z.1) ≡ (r >>= λ n. f (g n.0) n.1)
  map_bind g f (Ok x) = refl
  map_bind g f (Err e) = refl

  pub map_bind_2 : {A B : Type 0} (g : A → B) (f : B → List ℕ → Result C ℕ) (q : List ℕ → Result (A × List ℕ) ℕ) (r : Result (List ℕ) ℕ) → (map_at g (r >>= q) >>= λ z. f z.0 z.1) ≡ (r >>= λ rest. (q rest >>= λ n. f (g n.0) n.1))
  map_bind_2 g f q (Ok x) = map_bind g f (q x)
  map_bind_2 g f q (Err e) = refl

  number_step : (f : ℤ → List ℕ → Result C ℕ) (xs : List ℕ) (b : Bool) → (cond b (map_at minus (expect_at (45 ∷ []) xs >>= count_at)) (map_at pos (count_at xs)) >>= λ z. f z.0 z.1)
      ≡ cond b (expect_at (45 ∷ []) xs >>= λ rest. (count_at rest >>= λ n. f (minus n.0) n.1)) (count_at xs >>= λ n. f (pos n.0) n.1)
  number_step f xs true = map_bind_2 minus f count_at (expect_at (45 ∷ []) xs)
  number_step f xs false = map_bind pos f (count_at xs)

  pub number_reads : (K : ℤ → Language C) (f : ℤ → List ℕ → Result C ℕ) → ((n : ℤ) → Apart is_digit (K n)) → ((n : ℤ) → Reads (K n) (f n)) → Reads (number ▸ K) (λ xs. number_at xs >>= λ n. f n.0 n.1)
  unfolding number_at
  number_reads K f a r =
      let low : List ℕ → Result C ℕ = λ xs. count_at xs >>= λ n. f (minus n.0) n.1 in
      let high : List ℕ → Result C ℕ = λ xs. count_at xs >>= λ n. f (pos n.0) n.1 in
      let both : Reads (signed K) (λ xs. cond (begins_with (λ b. b == 45) xs) (expect_at (45 ∷ []) xs >>= low) (high xs)) =
      or_reads (λ b. b == 45) (Lit (45 ∷ []) (count ▸ λ n. K (minus n))) (count ▸ λ n. K (pos n)) (λ xs. expect_at (45 ∷ []) xs >>= low) high
      (lit_begins 45 [] (count ▸ λ n. K (minus n))) (count_not_minus (λ n. K (pos n)))
      (lit_reads (45 ∷ []) (count ▸ λ n. K (minus n)) low (count_reads (λ n. K (minus n)) (λ n. f (minus n)) (λ n. a (minus n)) (λ n. r (minus n))))
      (count_reads (λ n. K (pos n)) (λ n. f (pos n)) (λ n. a (pos n)) (λ n. r (pos n))) in
      reads_same (signed K) (number ▸ K) (signed_same K) (λ xs. number_at xs >>= λ n. f n.0 n.1)
      (record { live = both.live; settles = λ xs. let P : Result C ℕ → Type 0 = λ z. Settles (signed K) xs z in subst P (sym (number_step f xs (begins_with (λ b. b == 45) xs))) (both.settles xs) })

  pub number_apart : (K : ℤ → Language C) → Apart is_space (number ▸ K)
  number_apart K x t xs c h = or_apart is_space (Lit (45 ∷ []) (count ▸ λ n. K (minus n))) (count ▸ λ n. K (pos n)) (lit_apart is_space 45 [] (count ▸ λ n. K (minus n)) refl) (count_apart (λ n. K (pos n))) x t xs c ((signed_same K).1 (x ∷ xs) c h)

  pub number_not_quote : (K : ℤ → Language C) → Apart (λ b. b == 34) (number ▸ K)
  number_not_quote K x t xs c h = or_apart (λ b. b == 34) (Lit (45 ∷ []) (count ▸ λ n. K (minus n))) (count ▸ λ n. K (pos n)) (lit_apart (λ b. b == 34) 45 [] (count ▸ λ n. K (minus n)) refl) (count_not_quote (λ n. K (pos n))) x t xs c ((signed_same K).1 (x ∷ xs) c h)

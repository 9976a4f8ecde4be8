-- Reading of one of some words, of which none begins another.
use Rattle.std.proofs.Common.{◌≡◌, ℕ, ◌≤◌, min, Bool, true, false, cond, not, ◌&&◌, ◌||◌, ◌==◌, List, [], ◌∷◌, ◌++◌, length, Result, Ok, Err, ◌⊎◌, refl, sym, ap, subst, ◌∙◌, inl, inr, arith, append_assoc, length-append}
use Rattle.std.specs.List.{list_all}
use Rattle.std.proofs.lemmas.Bool.{eqb-true, eqb-false, and_parts, or_cases, not-true, false≢true, both_ways, cases_lt}
use Rattle.cmd_words.specs.Language.{Language, ◌▸◌}
use Rattle.cmd_words.specs.Productions.{is_space}
use Rattle.cmd_text.specs.Reading.{◌>>=◌, expect_at, begins_with}
use Rattle.cmd_text.specs.ReadingWords.{or_nearer, pick_at}
use Rattle.cmd_text.proofs.Settling.{Live, Stuck, Settles, Reads, Within, Apart, heads, tails, left_le, step, settles_same}
use Rattle.cmd_text.proofs.Parts.{Lit, lit_nil, lit_derives, lit_settles}

abbrev pub Among : {A : Type 0} → List A → A → Type 0
Among [] a = ⊥
Among (b ∷ bs) a = (b ≡ a) ⊎ Among bs a

pub passes_among : {A : Type 0} (test : A → Bool) (all : List A) (a : A) → list_all test all ≡ true → Among all a → test a ≡ true
passes_among test [] a p m = absurd m
passes_among test (b ∷ all) a p m =
    let q = and_parts (test b) (list_all test all) p in
    elim m [ inl e ↦ ap test (sym e) ∙ q.0 | inr n ↦ passes_among test all a q.1 n ]

-- what the words are: each is among all, none begins another, and none begins with a space
pub record AreWords {A : Type 0} (word_of : A → List ℕ) (all : List A) : Type 0 where
  pub complete : (a : A) → Among all a
  pub one : A
  pub apart : (a b : A) (s t : List ℕ) → word_of a ++ s ≡ word_of b ++ t → a ≡ b
  pub solid : (a : A) (x : ℕ) (xs s : List ℕ) → x ∷ xs ≡ word_of a ++ s → is_space x ≡ false

-- two words differ at some place
abbrev pub clash : List ℕ → List ℕ → Bool
clash [] ys = false
clash (x ∷ xs) [] = false
clash (x ∷ xs) (y ∷ ys) = not (x == y) || clash xs ys

clash_apart : (v w s t : List ℕ) → clash v w ≡ true → v ++ s ≡ w ++ t → ⊥
clash_apart [] w s t c e = false≢true c
clash_apart (x ∷ v) [] s t c e = false≢true c
clash_apart (x ∷ v) (y ∷ w) s t c e =
    elim (or_cases (not (x == y)) (clash v w) c) [
      | inl n ↦ eqb-false x y (not-true (x == y) n) (heads x y (v ++ s) (w ++ t) e)
      | inr n ↦ clash_apart v w s t n (tails x y (v ++ s) (w ++ t) e)
    ]

solid_first : (w : List ℕ) (x : ℕ) (xs s : List ℕ) → begins_with (λ b. not (is_space b)) w ≡ true → x ∷ xs ≡ w ++ s → is_space x ≡ false
solid_first [] x xs s p e = absurd (false≢true p)
solid_first (y ∷ w) x xs s p e = ap is_space (heads x y xs (w ++ s) e) ∙ not-true (is_space y) p

-- no word begins another
abbrev pub all_clash : {A : Type 0} → (A → List ℕ) → List A → Bool
all_clash word_of [] = true
all_clash word_of (a ∷ all) = list_all (λ b. clash (word_of a) (word_of b)) all && all_clash word_of all

clash_among : {A : Type 0} (word_of : A → List ℕ) (a : A) (all : List A) (b : A) (s t : List ℕ) → list_all (λ c. clash (word_of a) (word_of c)) all ≡ true → Among all b → word_of a ++ s ≡ word_of b ++ t → ⊥
clash_among word_of a all b s t p m e = clash_apart (word_of a) (word_of b) s t (passes_among (λ c. clash (word_of a) (word_of c)) all b p m) e

words_apart : {A : Type 0} (word_of : A → List ℕ) (all : List A) → all_clash word_of all ≡ true → (a b : A) (s t : List ℕ) → Among all a → Among all b → word_of a ++ s ≡ word_of b ++ t → a ≡ b
words_apart word_of [] p a b s t m n e = absurd m
words_apart word_of (c ∷ all) p a b s t (inl x) (inl y) e = sym x ∙ y
words_apart word_of (c ∷ all) p a b s t (inl x) (inr k) e = absurd (clash_among word_of c all b s t (and_parts (list_all (λ d. clash (word_of c) (word_of d)) all) (all_clash word_of all) p).0 k (ap (λ d. word_of d ++ s) x ∙ e))
words_apart word_of (c ∷ all) p a b s t (inr k) (inl y) e = absurd (clash_among word_of c all a t s (and_parts (list_all (λ d. clash (word_of c) (word_of d)) all) (all_clash word_of all) p).0 k (ap (λ d. word_of d ++ t) y ∙ sym e))
words_apart word_of (c ∷ all) p a b s t (inr k) (inr l) e = words_apart word_of all (and_parts (list_all (λ d. clash (word_of c) (word_of d)) all) (all_clash word_of all) p).1 a b s t k l e

-- words are such where tests that compute say so
pub words_from : {A : Type 0} (word_of : A → List ℕ) (all : List A) (one : A) → ((a : A) → Among all a) → all_clash word_of all ≡ true → list_all (λ a. begins_with (λ b. not (is_space b)) (word_of a)) all ≡ true → AreWords word_of all
words_from word_of all one complete differ first = record {
  complete = complete;
  one = one;
  apart = λ a b s t e. words_apart word_of all differ a b s t (complete a) (complete b) e;
  solid = λ a x xs s e. solid_first (word_of a) x xs s (passes_among (λ a. begins_with (λ b. not (is_space b)) (word_of a)) all a first (complete a)) e;
}

-- ---- one word

abbrev found : List ℕ → Result (List ℕ) ℕ
found x = Ok x

abbrev failed : ℕ → Result (List ℕ) ℕ
failed x = Err x

ok_is : (x y : List ℕ) → found x ≡ found y → x ≡ y
ok_is x y e = cc

err_is : (x y : ℕ) → failed x ≡ failed y → x ≡ y
err_is x y e = cc

expect_found : (w xs rest : List ℕ) → expect_at w xs ≡ Ok rest → xs ≡ w ++ rest
expect_found [] xs rest e = ok_is xs rest e
expect_found (w ∷ ws) [] rest e = absurd cc
expect_found (w ∷ ws) (x ∷ xs) rest e = by (x == w) refl e (λ h. expect_found ws xs rest h)
  where
    by : (b : Bool) → (x == w) ≡ b → cond b (expect_at ws xs) (Err (length (x ∷ xs))) ≡ Ok rest → (expect_at ws xs ≡ Ok rest → xs ≡ ws ++ rest) → x ∷ xs ≡ w ∷ (ws ++ rest)
    by true q e h = ap (λ (z : ℕ). z ∷ xs) (eqb-true x w q) ∙ ap (λ (u : List ℕ). w ∷ u) (h e)
    by false q e h = absurd cc

-- the front that the word and the bytes share, and what is left after it
pub record Shared (w xs : List ℕ) (left : ℕ) : Type 0 where
  pub front : List ℕ
  pub after : List ℕ
  pub more : List ℕ
  pub split : xs ≡ front ++ after
  pub count : length after ≡ left
  pub begins : w ≡ front ++ more

expect_shared : (w xs : List ℕ) (left : ℕ) → expect_at w xs ≡ Err left → Shared w xs left
expect_shared [] xs left e = absurd cc
expect_shared (w ∷ ws) [] left e = record { front = []; after = []; more = w ∷ ws; split = refl; count = err_is 0 left e; begins = refl }
expect_shared (w ∷ ws) (x ∷ xs) left e = by (x == w) refl e (λ h. expect_shared ws xs left h)
  where
    by : (b : Bool) → (x == w) ≡ b → cond b (expect_at ws xs) (Err (length (x ∷ xs))) ≡ Err left → (expect_at ws xs ≡ Err left → Shared ws xs left) → Shared (w ∷ ws) (x ∷ xs) left
    by true q e h =
        let s = h e in
        record { front = w ∷ s.front; after = s.after; more = s.more; split = ap (λ (z : ℕ). z ∷ xs) (eqb-true x w q) ∙ ap (λ (u : List ℕ). w ∷ u) s.split; count = s.count; begins = ap (λ (u : List ℕ). w ∷ u) s.begins }
    by false q e h = record { front = []; after = x ∷ xs; more = w ∷ ws; split = refl; count = err_is (length (x ∷ xs)) left e; begins = refl }

-- any bytes at all
abbrev all_bytes : Language (Unit {0})
all_bytes xs c = Unit {0}

expect_stuck : (w xs : List ℕ) (left : ℕ) → expect_at w xs ≡ Err left → Stuck (Lit w all_bytes) xs left
expect_stuck w xs left e =
    let all : Result (Unit {0}) ℕ = expect_at w xs >>= λ _. Ok tt in
    let P : Result (List ℕ) ℕ → Type 0 = λ r. Settles (Lit w all_bytes) xs (r >>= λ _. Ok tt) in
    subst P e (lit_settles w all_bytes (λ _. Ok tt) (record { live = ([], tt, tt); settles = λ ys. (tt, λ d h. refl) }) xs)

-- ---- some words

pub record Missed {A : Type 0} (word_of : A → List ℕ) (all : List A) (xs : List ℕ) (left : ℕ) : Type 0 where
  pub none : (a : A) → Among all a → (rest : List ℕ) → xs ≡ word_of a ++ rest → ⊥
  pub longest : (a : A) → Among all a → (u v t rest : List ℕ) → xs ≡ u ++ v → u ++ t ≡ word_of a ++ rest → left ≤ length v
  pub front : List ℕ
  pub after : List ℕ
  pub split : xs ≡ front ++ after
  pub count : length after ≡ left
  pub near : (front ≡ []) ⊎ ((a : A) × (more : List ℕ) × (word_of a ≡ front ++ more))

missed_one : {A : Type 0} (word_of : A → List ℕ) (a : A) (all : List A) (xs : List ℕ) (l m : ℕ) → expect_at (word_of a) xs ≡ Err l → Missed word_of all xs m → Missed word_of (a ∷ all) xs (min l m)
missed_one {A} word_of a all xs l m e h =
    let s : Stuck (Lit (word_of a) all_bytes) xs l = expect_stuck (word_of a) xs l e in
    let p : Shared (word_of a) xs l = expect_shared (word_of a) xs l e in
    let none : (b : A) → Among (a ∷ all) b → (rest : List ℕ) → xs ≡ word_of b ++ rest → ⊥ =
    λ b n rest q. elim n [
      | inl same ↦ s.none tt (record { front = word_of a; after = rest; split = q ∙ ap (λ z. word_of z ++ rest) (sym same); word = refl; goes_on = tt })
      | inr n ↦ h.none b n rest q
    ] in
    let longest : (b : A) → Among (a ∷ all) b → (u v t rest : List ℕ) → xs ≡ u ++ v → u ++ t ≡ word_of b ++ rest → min l m ≤ length v =
    λ b n u v t rest q r. elim n [
      | inl same ↦ let k : l ≤ length v = s.longest u v t tt q (record { front = word_of a; after = rest; split = r ∙ ap (λ z. word_of z ++ rest) (sym same); word = refl; goes_on = tt }) in omega arith
      | inr n ↦ let k : m ≤ length v = h.longest b n u v t rest q r in omega arith
    ] in
    elim (cases_lt l m) [
      | inl lt ↦ record { none = none; longest = longest; front = p.front; after = p.after; split = p.split; count = omega (arith, p.count); near = inr (a, p.more, p.begins) }
      | inr le ↦ record { none = none; longest = longest; front = h.front; after = h.after; split = h.split; count = omega (arith, h.count); near = h.near }
    ]

-- what picking found, or missed
abbrev pub Picked : {A : Type 0} → (A → List ℕ) → List A → List ℕ → Result (A × List ℕ) ℕ → Type 0
Picked word_of all xs (Ok x) = xs ≡ word_of x.0 ++ x.1
Picked word_of all xs (Err left) = Missed word_of all xs left

picked_one : {A : Type 0} (word_of : A → List ℕ) (a : A) (all : List A) (xs : List ℕ) (r : Result (List ℕ) ℕ) → expect_at (word_of a) xs ≡ r → (p : Result (A × List ℕ) ℕ) → Picked word_of all xs p → Picked word_of (a ∷ all) xs (or_nearer (r >>= λ rest. Ok (a, rest)) p)
picked_one word_of a all xs (Ok rest) e p h = expect_found (word_of a) xs rest e
picked_one word_of a all xs (Err l) e (Ok x) h = h
picked_one word_of a all xs (Err l) e (Err m) h = missed_one word_of a all xs l m e h

pub picked : {A : Type 0} (word_of : A → List ℕ) (all : List A) (xs : List ℕ) → Picked word_of all xs (pick_at word_of all xs)
picked word_of [] xs = record { none = λ a m rest e. m; longest = λ a m u v t rest e q. absurd m; front = []; after = xs; split = refl; count = refl; near = inl refl }
picked word_of (a ∷ all) xs = picked_one word_of a all xs (expect_at (word_of a) xs) refl (pick_at word_of all xs) (picked word_of all xs)

-- ---- what goes on after the word

front_of : (w rest u v : List ℕ) → w ++ rest ≡ u ++ v → length w ≤ length u → (t : List ℕ) × (u ≡ w ++ t)
front_of [] rest u v e l = (u, refl)
front_of (x ∷ w) rest [] v e l = absurd (omega (arith, l))
front_of (x ∷ w) rest (y ∷ u) v e l =
    let t = front_of w rest u v (tails x y (w ++ rest) (u ++ v) e) (omega (arith, l)) in
    (t.0, ap (λ (z : ℕ). z ∷ u) (sym (heads x y (w ++ rest) (u ++ v) e)) ∙ ap (λ (u : List ℕ). x ∷ u) t.1)

module _ {C : Type 0} where
  lit_on : (w rest : List ℕ) (K : Language C) (r : Result C ℕ) → Settles K rest r → Settles (Lit w K) (w ++ rest) r
  lit_on [] rest K r s = settles_same K (Lit [] K) (lit_nil K) rest r s
  lit_on (w ∷ ws) rest K r s = step w (Lit (w ∷ ws) K) (Lit ws K) (lit_derives w ws K) (ws ++ rest) r (lit_on ws rest K r s)

module _ {A C : Type 0} where
  -- a word of one of these, then K
  abbrev pub Picks : (A → List ℕ) → (A → Language C) → Language C
  Picks word_of K = (λ u a. u ≡ word_of a) ▸ K

  picks_lit : (word_of : A → List ℕ) (K : A → Language C) (a : A) → Within (Lit (word_of a) (K a)) (Picks word_of K)
  picks_lit word_of K a xs c h = record { front = h.front; after = h.after; value = a; split = h.split; stands = h.word; goes_on = h.goes_on }

  -- where the bytes begin with a's word, a is what is picked
  lit_picks : (word_of : A → List ℕ) (all : List A) → AreWords word_of all → (K : A → Language C) (a : A) (rest xs : List ℕ) (c : C) → xs ≡ word_of a ++ rest → Picks word_of K xs c → Lit (word_of a) (K a) xs c
  lit_picks word_of all are K a rest xs c e h =
      let q : xs ≡ word_of h.value ++ h.after = h.split ∙ ap (λ (u : List ℕ). u ++ h.after) h.stands in
      let same : h.value ≡ a = are.apart h.value a h.after rest (sym q ∙ e) in
      let P : A → Type 0 = λ b. K b h.after c in
      record { front = word_of a; after = h.after; split = q ∙ ap (λ b. word_of b ++ h.after) same; word = refl; goes_on = subst P same h.goes_on }

  widen : (word_of : A → List ℕ) (all : List A) → AreWords word_of all → (K : A → Language C) (a : A) (rest : List ℕ) (r : Result C ℕ) → Settles (K a) rest r → Settles (Lit (word_of a) (K a)) (word_of a ++ rest) r → Settles (Picks word_of K) (word_of a ++ rest) r
  widen word_of all are K a rest (Ok c) k s = (picks_lit word_of K a _ _ s.0, λ d h. s.1 d (lit_picks word_of all are K a rest _ d refl h))
  widen word_of all are K a rest (Err left) k s = record {
    none = λ c h. s.none c (lit_picks word_of all are K a rest _ c refl h);
    front = s.front;
    after = s.after;
    split = s.split;
    count = s.count;
    more = s.more;
    of = s.of;
    begins = picks_lit word_of K a _ _ s.begins;
    longest = λ u v t c e h. elim (cases_lt (length u) (length (word_of a))) [
      | inl lt ↦ omega (arith, left_le (K a) rest left k, ap length e, length-append (word_of a) rest, length-append u v)
      | inr le ↦
          let f = front_of (word_of a) rest u v e le in
          s.longest u v t c e (lit_picks word_of all are K a (f.0 ++ t) (u ++ t) c (ap (λ (z : List ℕ). z ++ t) f.1 ∙ append_assoc (word_of a) f.0 t) h)
    ];
  }

  picks_live : (word_of : A → List ℕ) (K : A → Language C) (a : A) → Live (K a) → Live (Picks word_of K)
  picks_live word_of K a live = (word_of a ++ live.0, live.1, record { front = word_of a; after = live.0; value = a; split = refl; stands = refl; goes_on = live.2 })

  picks_settles : (word_of : A → List ℕ) (all : List A) → AreWords word_of all → (K : A → Language C) (f : A → List ℕ → Result C ℕ) → ((a : A) → Reads (K a) (f a)) → (xs : List ℕ) (p : Result (A × List ℕ) ℕ) → Picked word_of all xs p → Settles (Picks word_of K) xs (p >>= λ x. f x.0 x.1)
  picks_settles word_of all are K f r xs (Ok x) h =
      let P : List ℕ → Type 0 = λ ys. Settles (Picks word_of K) ys (f x.0 x.1) in
      let s : Settles (K x.0) x.1 (f x.0 x.1) = (r x.0).settles x.1 in
      subst P (sym h) (widen word_of all are K x.0 x.1 (f x.0 x.1) s (lit_on (word_of x.0) x.1 (K x.0) (f x.0 x.1) s))
  picks_settles word_of all are K f r xs (Err left) h =
      let none : (c : C) → Picks word_of K xs c → ⊥ = λ c m. h.none m.value (are.complete m.value) m.after (m.split ∙ ap (λ (u : List ℕ). u ++ m.after) m.stands) in
      let longest : (u v t : List ℕ) (c : C) → xs ≡ u ++ v → Picks word_of K (u ++ t) c → left ≤ length v =
      λ u v t c e m. h.longest m.value (are.complete m.value) u v t m.after e (m.split ∙ ap (λ (z : List ℕ). z ++ m.after) m.stands) in
      elim h.near [
        | inl empty ↦
            let live = picks_live word_of K are.one (r are.one).live in
            let P : List ℕ → Type 0 = λ z. Picks word_of K (z ++ live.0) live.1 in
            record { none = none; front = h.front; after = h.after; split = h.split; count = h.count; more = live.0; of = live.1; begins = subst P (sym empty) live.2; longest = longest }
        | inr n ↦
            let live = (r n.0).live in
            record {
              none = none;
              front = h.front;
              after = h.after;
              split = h.split;
              count = h.count;
              more = n.1 ++ live.0;
              of = live.1;
              begins = record { front = word_of n.0; after = live.0; value = n.0; split = sym (append_assoc h.front n.1 live.0) ∙ ap (λ (z : List ℕ). z ++ live.0) (sym n.2); stands = refl; goes_on = live.2 };
              longest = longest;
            }
      ]

  pub pick_reads : (word_of : A → List ℕ) (all : List A) → AreWords word_of all → (K : A → Language C) (f : A → List ℕ → Result C ℕ) → ((a : A) → Reads (K a) (f a)) → Reads (Picks word_of K) (λ xs. pick_at word_of all xs >>= λ x. f x.0 x.1)
  pick_reads word_of all are K f r = record {
    live = picks_live word_of K are.one (r are.one).live;
    settles = λ xs. picks_settles word_of all are K f r xs (pick_at word_of all xs) (picked word_of all xs);
  }

  pub pick_apart : (word_of : A → List ℕ) (all : List A) → AreWords word_of all → (K : A → Language C) → Apart is_space (Picks word_of K)
  pick_apart word_of all are K x t xs c h = both_ways (is_space x) (are.solid h.value x xs h.after (h.split ∙ ap (λ (u : List ℕ). u ++ h.after) h.stands)) t

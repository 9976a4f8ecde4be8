-- Reading of texts and values.
use Rattle.std.proofs.Common.{◌≡◌, ℕ, zero, suc, ◌≤◌, Bool, true, false, cond, ◌||◌, leb, ◌==◌, List, [], ◌∷◌, ◌++◌, length, Result, Ok, Err, refl, sym, ap, subst, ◌∙◌, arith, append_assoc, append-nil}
use Rattle.std.specs.List.{list_all, flat_map}
use Rattle.std.proofs.lemmas.Bool.{eqb-true, eqb-false, and_parts, and_from, both_ways, le-leb, leb-true}
use Rattle.kind_core.specs.Bytes.{is_digit, is_printable}
use Rattle.kind_core.specs.declared.values.Value as value_type
use Rattle.kind_core.specs.declared.values.Value.TheVariants.{Number, Words}
use Rattle.cmd_words.specs.Language.{Language, ◌▸◌, ◌⊕◌, stands_for}
use Rattle.cmd_words.specs.Productions.{is_space, character, text, number, value}
use Rattle.cmd_text.specs.Reading.{◌>>=◌, expect_at, begins_with, read, map_at, number_at}
use Rattle.cmd_text.specs.ReadingOptions.{is_special, escaped_at, chars_at, text_at, value_at}
use Rattle.cmd_text.proofs.Settling.{Live, Settles, Reads, Same, Derives, Never, Apart, heads, tails, step, stop, ends, reads_same}
use Rattle.cmd_text.proofs.Joins.{same_trans, with_or, with_with, with_stands, same_or, same_with}
use Rattle.cmd_text.proofs.Parts.{Lit, lit_reads, lit_apart, lit_begins, or_reads, or_apart, BeginsBy, map_bind, number_reads, number_apart, number_not_quote}

longer : (front t : List ℕ) (b : ℕ) → front ++ b ∷ t ≡ (front ++ b ∷ []) ++ t
longer front t b = sym (append_assoc front (b ∷ []) t)

special_prints : (b : ℕ) → is_special b ≡ true → is_printable b ≡ true
special_prints b e = by_34 (b == 34) refl e
  where
    by_34 : (s : Bool) → (b == 34) ≡ s → (s || (b == 92)) ≡ true → is_printable b ≡ true
    by_34 true e h = ap is_printable (eqb-true b 34 e)
    by_34 false e h = ap is_printable (eqb-true b 92 h)

special_character : (b : ℕ) → is_special b ≡ true → character b ≡ 92 ∷ b ∷ []
special_character b e = ap (λ s. cond s (92 ∷ b ∷ []) (b ∷ [])) e

plain_character : (b : ℕ) → is_special b ≡ false → character b ≡ b ∷ []
plain_character b e = ap (λ s. cond s (92 ∷ b ∷ []) (b ∷ [])) e

escaped_nil : (xs rest : List ℕ) (b : ℕ) → [] ≡ b ∷ rest → ⊥
escaped_nil xs rest b e = cc

module _ {C : Type 0} where
  -- up to k characters, the quote, and what goes on for the characters of front and these
  pub record CharsOf (k : ℕ) (front : List ℕ) (K : List ℕ → Language C) (xs : List ℕ) (c : C) : Type 0 where
    pub chars : List ℕ
    pub after : List ℕ
    pub split : xs ≡ flat_map character chars ++ (34 ∷ after)
    pub short : length chars ≤ k
    pub prints : list_all is_printable chars ≡ true
    pub goes_on : K (front ++ chars) after c

  -- after a `\`: the character that it stands before, and the others
  pub record EscapedOf (k : ℕ) (front : List ℕ) (K : List ℕ → Language C) (xs : List ℕ) (c : C) : Type 0 where
    pub byte : ℕ
    pub rest : List ℕ
    pub split : xs ≡ byte ∷ rest
    pub special : is_special byte ≡ true
    pub others : CharsOf k (front ++ byte ∷ []) K rest c

  -- what the first byte x of the characters may be
  pub data Opened (k : ℕ) (front : List ℕ) (K : List ℕ → Language C) (x : ℕ) (xs : List ℕ) (c : C) : Type 0 where
    Quote : x ≡ 34 → K front xs c → Opened k front K x xs c
    Escape : (j : ℕ) → k ≡ suc j → x ≡ 92 → EscapedOf j front K xs c → Opened k front K x xs c
    Plain : (j : ℕ) → k ≡ suc j → is_special x ≡ false → is_printable x ≡ true → CharsOf j (front ++ x ∷ []) K xs c → Opened k front K x xs c

  open_char : (k : ℕ) (front : List ℕ) (K : List ℕ → Language C) (x : ℕ) (xs : List ℕ) (c : C) (b : ℕ) (t after : List ℕ) → length (b ∷ t) ≤ suc k → is_printable b ≡ true → list_all is_printable t ≡ true → K (front ++ b ∷ t) after c
      → (s : Bool) → is_special b ≡ s → x ∷ xs ≡ (cond s (92 ∷ b ∷ []) (b ∷ []) ++ flat_map character t) ++ (34 ∷ after) → Opened (suc k) front K x xs c
  open_char k front K x xs c b t after short p ps h true e eq =
      let P : List ℕ → Type 0 = λ f. K f after c in
      Escape k refl (heads x 92 xs (b ∷ (flat_map character t ++ (34 ∷ after))) eq)
      (record {
        byte = b;
        rest = flat_map character t ++ (34 ∷ after);
        split = tails x 92 xs (b ∷ (flat_map character t ++ (34 ∷ after))) eq;
        special = e;
        others = record { chars = t; after = after; split = refl; short = omega (arith, short); prints = ps; goes_on = subst P (longer front t b) h };
      })
  open_char k front K x xs c b t after short p ps h false e eq =
      let P : List ℕ → Type 0 = λ f. K f after c in
      let same : b ≡ x = sym (heads x b xs (flat_map character t ++ (34 ∷ after)) eq) in
      let Q : ℕ → Type 0 = λ z. is_special z ≡ false in
      let R : ℕ → Type 0 = λ z. is_printable z ≡ true in
      let S : ℕ → Type 0 = λ z. K ((front ++ z ∷ []) ++ t) after c in
      Plain k refl (subst Q same e) (subst R same p)
      (record { chars = t; after = after; split = tails x b xs (flat_map character t ++ (34 ∷ after)) eq; short = omega (arith, short); prints = ps; goes_on = subst S same (subst P (longer front t b) h) })

  opened : (k : ℕ) (front : List ℕ) (K : List ℕ → Language C) (x : ℕ) (xs : List ℕ) (c : C) (t after : List ℕ) → x ∷ xs ≡ flat_map character t ++ (34 ∷ after) → length t ≤ k → list_all is_printable t ≡ true → K (front ++ t) after c → Opened k front K x xs c
  opened k front K x xs c [] after e s p h =
      let P : List ℕ → Type 0 = λ f. K f after c in
      let Q : List ℕ → Type 0 = λ ys. K front ys c in
      Quote (heads x 34 xs after e) (subst Q (sym (tails x 34 xs after e)) (subst P (append-nil front) h))
  opened zero front K x xs c (b ∷ t) after e s p h = absurd (omega (arith, s))
  opened (suc k) front K x xs c (b ∷ t) after e s p h =
      let q = and_parts (is_printable b) (list_all is_printable t) p in
      open_char k front K x xs c b t after s q.0 q.1 h (is_special b) refl e

  pub chars_open : (k : ℕ) (front : List ℕ) (K : List ℕ → Language C) (x : ℕ) (xs : List ℕ) (c : C) → CharsOf k front K (x ∷ xs) c → Opened k front K x xs c
  chars_open k front K x xs c h = opened k front K x xs c h.chars h.after h.split h.short h.prints h.goes_on

  close_char : (k : ℕ) (front : List ℕ) (K : List ℕ → Language C) (xs : List ℕ) (c : C) (b : ℕ) → is_printable b ≡ true → (h : CharsOf k (front ++ b ∷ []) K xs c) → (zs : List ℕ) → zs ≡ (character b ++ flat_map character h.chars) ++ (34 ∷ h.after) → CharsOf (suc k) front K zs c
  close_char k front K xs c b p h zs e =
      let P : List ℕ → Type 0 = λ f. K f h.after c in
      record { chars = b ∷ h.chars; after = h.after; split = e; short = omega (arith, h.short); prints = and_from _ _ p h.prints; goes_on = subst P (sym (longer front h.chars b)) h.goes_on }

  chars_quote : (k : ℕ) (front : List ℕ) (K : List ℕ → Language C) → Derives 34 (CharsOf k front K) (K front)
  chars_quote k front K = record {
    into = λ xs c h. elim (chars_open k front K 34 xs c h) [ Quote e m ↦ m | Escape j e f m ↦ absurd (lit_no 34 92 refl f) | Plain j e f p m ↦ absurd (both_ways (is_special 34) f refl) ];
    back = λ xs c h. let P : List ℕ → Type 0 = λ f. K f xs c in record { chars = []; after = xs; split = refl; short = omega arith; prints = refl; goes_on = subst P (sym (append-nil front)) h };
  }
    where
      lit_no : (a b : ℕ) → (a == b) ≡ false → a ≡ b → ⊥
      lit_no a b e f = eqb-false a b e f

  chars_escape : (k : ℕ) (front : List ℕ) (K : List ℕ → Language C) → Derives 92 (CharsOf (suc k) front K) (EscapedOf k front K)
  chars_escape k front K = record {
    into = λ xs c h. elim (chars_open (suc k) front K 92 xs c h) [
      | Quote e m ↦ absurd (eqb-false 92 34 refl e)
      | Escape j e f m ↦ let P : ℕ → Type 0 = λ z. EscapedOf z front K xs c in subst P (sym (omega (arith, e))) m
      | Plain j e f p m ↦ absurd (both_ways (is_special 92) f refl)
    ];
    back = λ xs c h. close_char k front K h.rest c h.byte (special_prints h.byte h.special) h.others (92 ∷ xs)
        (ap (λ (u : List ℕ). 92 ∷ u) (h.split ∙ ap (λ (u : List ℕ). h.byte ∷ u) h.others.split) ∙ ap (λ (u : List ℕ). (u ++ flat_map character h.others.chars) ++ (34 ∷ h.others.after)) (sym (special_character h.byte h.special)));
  }

  chars_plain : (k : ℕ) (front : List ℕ) (K : List ℕ → Language C) (x : ℕ) → is_special x ≡ false → is_printable x ≡ true → Derives x (CharsOf (suc k) front K) (CharsOf k (front ++ x ∷ []) K)
  chars_plain k front K x s p = record {
    into = λ xs c h. elim (chars_open (suc k) front K x xs c h) [
      | Quote e m ↦ absurd (both_ways (is_special x) s (ap is_special e))
      | Escape j e f m ↦ absurd (both_ways (is_special x) s (ap is_special f))
      | Plain j e f q m ↦ let P : ℕ → Type 0 = λ z. CharsOf z (front ++ x ∷ []) K xs c in subst P (sym (omega (arith, e))) m
    ];
    back = λ xs c h. close_char k front K xs c x p h (x ∷ xs)
        (ap (λ (u : List ℕ). x ∷ u) h.split ∙ ap (λ (u : List ℕ). (u ++ flat_map character h.chars) ++ (34 ∷ h.after)) (sym (plain_character x s)));
  }

  chars_not_nil : (k : ℕ) (front : List ℕ) (K : List ℕ → Language C) (c : C) (t after : List ℕ) → [] ≡ flat_map character t ++ (34 ∷ after) → ⊥
  chars_not_nil k front K c [] after e = cc
  chars_not_nil k front K c (b ∷ t) after e = by (is_special b) e
    where
      by : (s : Bool) → [] ≡ (cond s (92 ∷ b ∷ []) (b ∷ []) ++ flat_map character t) ++ (34 ∷ after) → ⊥
      by true e = cc
      by false e = cc

  chars_live : (k : ℕ) (front : List ℕ) (K : List ℕ → Language C) → Live (K front) → Live (CharsOf k front K)
  chars_live k front K live = (34 ∷ live.0, live.1, (chars_quote k front K).back live.0 live.1 live.2)

  escaped_live : (k : ℕ) (front : List ℕ) (K : List ℕ → Language C) → Live (K (front ++ 34 ∷ [])) → Live (EscapedOf k front K)
  escaped_live k front K live =
      let l = chars_live k (front ++ 34 ∷ []) K live in
      (34 ∷ l.0, l.1, record { byte = 34; rest = l.0; split = refl; special = refl; others = l.2 })

  escaped_derives : (k : ℕ) (front : List ℕ) (K : List ℕ → Language C) (x : ℕ) → is_special x ≡ true → Derives x (EscapedOf k front K) (CharsOf k (front ++ x ∷ []) K)
  escaped_derives k front K x s = record {
    into = λ xs c h.
        let P : ℕ → Type 0 = λ z. CharsOf k (front ++ z ∷ []) K xs c in
        let Q : List ℕ → Type 0 = λ ys. CharsOf k (front ++ h.byte ∷ []) K ys c in
        subst P (sym (heads x h.byte xs h.rest h.split)) (subst Q (sym (tails x h.byte xs h.rest h.split)) h.others);
    back = λ xs c h. record { byte = x; rest = xs; split = refl; special = s; others = h };
  }

  escaped_never : (k : ℕ) (front : List ℕ) (K : List ℕ → Language C) (x : ℕ) → is_special x ≡ false → Never x (EscapedOf k front K)
  escaped_never k front K x s xs c h = both_ways (is_special x) s (ap is_special (heads x h.byte xs h.rest h.split) ∙ h.special)

  -- ---- the characters are read

  -- one byte of the characters, where the others are read
  chars_one : (k : ℕ) (front : List ℕ) (K : List ℕ → Language C) (f : List ℕ → List ℕ → Result C ℕ) → ((t : List ℕ) → Reads (K t) (f t)) → ((g ys : List ℕ) → Settles (CharsOf k g K) ys (chars_at k g ys >>= λ t. f t.0 t.1)) → (x : ℕ) (xs : List ℕ) → Settles (CharsOf (suc k) front K) (x ∷ xs) (chars_at (suc k) front (x ∷ xs) >>= λ t. f t.0 t.1)
  chars_one k front K f r rec x xs = quote_byte (x == 34) refl
    where
      escaped : (ys : List ℕ) → Settles (EscapedOf k front K) ys (escaped_at (chars_at k) front ys >>= λ t. f t.0 t.1)
      escaped [] = ends (EscapedOf k front K) (escaped_live k front K (r (front ++ 34 ∷ [])).live) (λ c h. escaped_nil [] h.rest h.byte h.split)
      escaped (y ∷ ys) = special (is_special y) refl
        where
          special : (b : Bool) → is_special y ≡ b → Settles (EscapedOf k front K) (y ∷ ys) (cond b (chars_at k (front ++ y ∷ []) ys) (Err (length (y ∷ ys))) >>= λ t. f t.0 t.1)
          special true e = step y (EscapedOf k front K) (CharsOf k (front ++ y ∷ []) K) (escaped_derives k front K y e) ys (chars_at k (front ++ y ∷ []) ys >>= λ t. f t.0 t.1) (rec (front ++ y ∷ []) ys)
          special false e = stop y (EscapedOf k front K) (escaped_live k front K (r (front ++ 34 ∷ [])).live) (escaped_never k front K y e) ys

      plain_byte : (x == 34) ≡ false → (x == 92) ≡ false → (b : Bool) → is_printable x ≡ b → Settles (CharsOf (suc k) front K) (x ∷ xs) (cond b (chars_at k (front ++ x ∷ []) xs) (Err (length (x ∷ xs))) >>= λ t. f t.0 t.1)
      plain_byte n m true e =
          step x (CharsOf (suc k) front K) (CharsOf k (front ++ x ∷ []) K) (chars_plain k front K x (ap (λ b. b || (x == 92)) n ∙ m) e) xs (chars_at k (front ++ x ∷ []) xs >>= λ t. f t.0 t.1) (rec (front ++ x ∷ []) xs)
      plain_byte n m false e =
          stop x (CharsOf (suc k) front K) (chars_live (suc k) front K (r front).live)
          (λ ys c h. elim (chars_open (suc k) front K x ys c h) [ Quote q w ↦ eqb-false x 34 n q | Escape j q p w ↦ eqb-false x 92 m p | Plain j q p s w ↦ both_ways (is_printable x) e s ]) xs

      escape_byte : (x == 34) ≡ false → (b : Bool) → (x == 92) ≡ b → Settles (CharsOf (suc k) front K) (x ∷ xs) (cond b (escaped_at (chars_at k) front xs) (cond (is_printable x) (chars_at k (front ++ x ∷ []) xs) (Err (length (x ∷ xs)))) >>= λ t. f t.0 t.1)
      escape_byte n true e =
          let P : ℕ → Type 0 = λ y. Settles (CharsOf (suc k) front K) (y ∷ xs) (escaped_at (chars_at k) front xs >>= λ t. f t.0 t.1) in
          subst P (sym (eqb-true x 92 e)) (step 92 (CharsOf (suc k) front K) (EscapedOf k front K) (chars_escape k front K) xs (escaped_at (chars_at k) front xs >>= λ t. f t.0 t.1) (escaped xs))
      escape_byte n false e = plain_byte n e (is_printable x) refl

      quote_byte : (b : Bool) → (x == 34) ≡ b → Settles (CharsOf (suc k) front K) (x ∷ xs) (cond b (Ok (read front xs)) (cond (x == 92) (escaped_at (chars_at k) front xs) (cond (is_printable x) (chars_at k (front ++ x ∷ []) xs) (Err (length (x ∷ xs))))) >>= λ t. f t.0 t.1)
      quote_byte true e =
          let P : ℕ → Type 0 = λ y. Settles (CharsOf (suc k) front K) (y ∷ xs) (f front xs) in
          subst P (sym (eqb-true x 34 e)) (step 34 (CharsOf (suc k) front K) (K front) (chars_quote (suc k) front K) xs (f front xs) ((r front).settles xs))
      quote_byte false e = escape_byte e (x == 92) refl

  pub chars_settles : (k : ℕ) (front : List ℕ) (K : List ℕ → Language C) (f : List ℕ → List ℕ → Result C ℕ) → ((t : List ℕ) → Reads (K t) (f t)) → (xs : List ℕ) → Settles (CharsOf k front K) xs (chars_at k front xs >>= λ t. f t.0 t.1)
  chars_settles zero front K f r [] = ends (CharsOf 0 front K) (chars_live 0 front K (r front).live) (λ c h. chars_not_nil 0 front K c h.chars h.after h.split)
  chars_settles zero front K f r (x ∷ xs) = last_byte (x == 34) refl
    where
      last_byte : (b : Bool) → (x == 34) ≡ b → Settles (CharsOf 0 front K) (x ∷ xs) (cond b (Ok (read front xs)) (Err (length (x ∷ xs))) >>= λ t. f t.0 t.1)
      last_byte true e =
          let P : ℕ → Type 0 = λ y. Settles (CharsOf 0 front K) (y ∷ xs) (f front xs) in
          subst P (sym (eqb-true x 34 e)) (step 34 (CharsOf 0 front K) (K front) (chars_quote 0 front K) xs (f front xs) ((r front).settles xs))
      last_byte false e =
          stop x (CharsOf 0 front K) (chars_live 0 front K (r front).live)
          (λ ys c h. elim (chars_open 0 front K x ys c h) [ Quote q m ↦ eqb-false x 34 e q | Escape j q p m ↦ omega (arith, q) | Plain j q p s m ↦ omega (arith, q) ]) xs
  chars_settles (suc k) front K f r [] = ends (CharsOf (suc k) front K) (chars_live (suc k) front K (r front).live) (λ c h. chars_not_nil (suc k) front K c h.chars h.after h.split)
  chars_settles (suc k) front K f r (x ∷ xs) = chars_one k front K f r (λ g ys. chars_settles k g K f r ys) x xs

  pub chars_reads : (k : ℕ) (K : List ℕ → Language C) (f : List ℕ → List ℕ → Result C ℕ) → ((t : List ℕ) → Reads (K t) (f t)) → Reads (CharsOf k [] K) (λ xs. chars_at k [] xs >>= λ t. f t.0 t.1)
  chars_reads k K f r = record { live = chars_live k [] K (r []).live; settles = chars_settles k [] K f r }

  text_same : (K : List ℕ → Language C) → Same (Lit (34 ∷ []) (CharsOf 64 [] K)) (text ▸ K)
  text_same K = (
    λ xs c h. record {
      front = 34 ∷ flat_map character h.goes_on.chars ++ 34 ∷ [];
      after = h.goes_on.after;
      value = h.goes_on.chars;
      split = h.split ∙ ap (λ (u : List ℕ). u ++ h.after) h.word ∙ ap (λ (u : List ℕ). 34 ∷ u) (h.goes_on.split ∙ sym (append_assoc (flat_map character h.goes_on.chars) (34 ∷ []) h.goes_on.after));
      stands = (refl, and_from _ _ (le-leb (length h.goes_on.chars) 64 h.goes_on.short) h.goes_on.prints);
      goes_on = h.goes_on.goes_on;
    },
    λ xs c h. let p = and_parts (leb (length h.value) 64) (list_all is_printable h.value) h.stands.1 in record {
      front = 34 ∷ [];
      after = flat_map character h.value ++ (34 ∷ h.after);
      split = h.split ∙ ap (λ (u : List ℕ). u ++ h.after) h.stands.0 ∙ ap (λ (u : List ℕ). 34 ∷ u) (append_assoc (flat_map character h.value) (34 ∷ []) h.after);
      word = refl;
      goes_on = record { chars = h.value; after = h.after; split = refl; short = leb-true (length h.value) 64 p.0; prints = p.1; goes_on = h.goes_on };
    },
  )

  text_step : (f : List ℕ → List ℕ → Result C ℕ) (r : Result (List ℕ) ℕ) → ((r >>= λ rest. chars_at 64 [] rest) >>= λ t. f t.0 t.1) ≡ (r >>= λ rest. (chars_at 64 [] rest >>= λ t. f t.0 t.1))
  text_step f (Ok x) = refl
  text_step f (Err e) = refl

  pub text_reads : (K : List ℕ → Language C) (f : List ℕ → List ℕ → Result C ℕ) → ((t : List ℕ) → Reads (K t) (f t)) → Reads (text ▸ K) (λ xs. text_at xs >>= λ t. f t.0 t.1)
  unfolding text_at
  text_reads K f r =
      let l = lit_reads (34 ∷ []) (CharsOf 64 [] K) (λ xs. chars_at 64 [] xs >>= λ t. f t.0 t.1) (chars_reads 64 K f r) in
      reads_same (Lit (34 ∷ []) (CharsOf 64 [] K)) (text ▸ K) (text_same K) (λ xs. text_at xs >>= λ t. f t.0 t.1)
      (record { live = l.live; settles = λ xs. let P : Result C ℕ → Type 0 = λ z. Settles (Lit (34 ∷ []) (CharsOf 64 [] K)) xs z in subst P (sym (text_step f (expect_at (34 ∷ []) xs))) (l.settles xs) })

  text_begins : (K : List ℕ → Language C) → (test : ℕ → Bool) → test 34 ≡ false → Apart test (text ▸ K)
  text_begins K test e x t xs c h = lit_apart test 34 [] (CharsOf 64 [] K) e x t xs c ((text_same K).1 (x ∷ xs) c h)

  abbrev valued : (K : value_type.Value → Language C) → Language C
  valued K = (text ▸ λ t. K (Words t)) ⊕ (number ▸ λ n. K (Number n))

  valued_same : (K : value_type.Value → Language C) → Same (valued K) (value ▸ K)
  valued_same K =
      let words : Language value_type.Value = text ▸ λ t. stands_for (Words t) in
      let numbers : Language value_type.Value = number ▸ λ n. stands_for (Number n) in
      let back : Same (value ▸ K) (valued K) =
      same_trans (value ▸ K) ((words ▸ K) ⊕ (numbers ▸ K)) (valued K) (with_or words numbers K)
      (same_or (words ▸ K) (numbers ▸ K) (text ▸ λ t. K (Words t)) (number ▸ λ n. K (Number n))
      (same_trans (words ▸ K) (text ▸ λ t. (stands_for (Words t) ▸ K)) (text ▸ λ t. K (Words t)) (with_with text (λ t. stands_for (Words t)) K) (same_with text (λ t. (stands_for (Words t) ▸ K)) (λ t. K (Words t)) (λ t. with_stands (Words t) K)))
      (same_trans (numbers ▸ K) (number ▸ λ n. (stands_for (Number n) ▸ K)) (number ▸ λ n. K (Number n)) (with_with number (λ n. stands_for (Number n)) K) (same_with number (λ n. (stands_for (Number n) ▸ K)) (λ n. K (Number n)) (λ n. with_stands (Number n) K)))) in
      (back.1, back.0)

  text_begins_by : (K : List ℕ → Language C) → BeginsBy (λ b. b == 34) (text ▸ K)
  text_begins_by K =
      let l = lit_begins 34 [] (CharsOf 64 [] K) in
      record { some = λ c h. l.some c ((text_same K).1 [] c h); by = λ x e xs c h. l.by x e xs c ((text_same K).1 (x ∷ xs) c h) }

  value_step : (f : value_type.Value → List ℕ → Result C ℕ) (xs : List ℕ) (b : Bool) → (cond b (map_at Words (text_at xs)) (map_at Number (number_at xs)) >>= λ z. f z.0 z.1)
      ≡ cond b (text_at xs >>= λ t. f (Words t.0) t.1) (number_at xs >>= λ n. f (Number n.0) n.1)
  value_step f xs true = map_bind Words f (text_at xs)
  value_step f xs false = map_bind Number f (number_at xs)

  pub value_reads : (K : value_type.Value → Language C) (f : value_type.Value → List ℕ → Result C ℕ) → ((v : value_type.Value) → Apart is_digit (K v)) → ((v : value_type.Value) → Reads (K v) (f v)) → Reads (value ▸ K) (λ xs. value_at xs >>= λ v. f v.0 v.1)
  unfolding value_at
  value_reads K f a r =
      let both = or_reads (λ b. b == 34) (text ▸ λ t. K (Words t)) (number ▸ λ n. K (Number n)) (λ xs. text_at xs >>= λ t. f (Words t.0) t.1) (λ xs. number_at xs >>= λ n. f (Number n.0) n.1)
      (text_begins_by (λ t. K (Words t))) (number_not_quote (λ n. K (Number n)))
      (text_reads (λ t. K (Words t)) (λ t. f (Words t)) (λ t. r (Words t)))
      (number_reads (λ n. K (Number n)) (λ n. f (Number n)) (λ n. a (Number n)) (λ n. r (Number n))) in
      reads_same (valued K) (value ▸ K) (valued_same K) (λ xs. value_at xs >>= λ v. f v.0 v.1)
      (record { live = both.live; settles = λ xs. let P : Result C ℕ → Type 0 = λ z. Settles (valued K) xs z in subst P (sym (value_step f xs (begins_with (λ b. b == 34) xs))) (both.settles xs) })

  pub value_apart : (K : value_type.Value → Language C) → Apart is_space (value ▸ K)
  value_apart K x t xs c h = or_apart is_space (text ▸ λ t. K (Words t)) (number ▸ λ n. K (Number n)) (text_begins (λ t. K (Words t)) is_space refl) (number_apart (λ n. K (Number n))) x t xs c ((valued_same K).1 (x ∷ xs) c h)

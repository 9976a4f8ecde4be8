-- What it means that a reading settles a language on some bytes: it finds the one thing that they stand for, or
-- stops after the longest front that some word of the language has. And how readings of parts make one of the whole.
use Rattle.std.proofs.Common.{◌≡◌, ℕ, ◌≤◌, Bool, true, List, [], ◌∷◌, ◌++◌, length, Result, Ok, Err, refl, sym, ap, subst, arith, length-append}
use Rattle.cmd_words.specs.Language.{Language}

-- the language has a word
abbrev pub Live : {C : Type 0} → Language C → Type 0
Live {C} L = (xs : List ℕ) × (c : C) × L xs c

-- no word is xs, and the longest front of xs that some word has leaves so many bytes
pub record Stuck {C : Type 0} (L : Language C) (xs : List ℕ) (left : ℕ) : Type 0 where
  pub none : (c : C) → L xs c → ⊥
  pub front : List ℕ
  pub after : List ℕ
  pub split : xs ≡ front ++ after
  pub count : length after ≡ left
  pub more : List ℕ
  pub of : C
  pub begins : L (front ++ more) of
  pub longest : (u v t : List ℕ) (c : C) → xs ≡ u ++ v → L (u ++ t) c → left ≤ length v

abbrev pub Settles : {C : Type 0} → Language C → List ℕ → Result C ℕ → Type 0
Settles {C} L xs (Ok c) = L xs c × ((d : C) → L xs d → d ≡ c)
Settles L xs (Err left) = Stuck L xs left

-- a reading f of a language that has words
pub record Reads {C : Type 0} (L : Language C) (f : List ℕ → Result C ℕ) : Type 0 where
  pub live : Live L
  pub settles : (xs : List ℕ) → Settles L xs (f xs)

-- each word of L is one of M
abbrev pub Within : {C : Type 0} → Language C → Language C → Type 0
Within {C} L M = (xs : List ℕ) (c : C) → L xs c → M xs c

-- the same words
abbrev pub Same : {C : Type 0} → Language C → Language C → Type 0
Same L M = Within L M × Within M L

pub heads : (x y : ℕ) (xs ys : List ℕ) → x ∷ xs ≡ y ∷ ys → x ≡ y
heads x y xs ys e = cc

pub tails : (x y : ℕ) (xs ys : List ℕ) → x ∷ xs ≡ y ∷ ys → xs ≡ ys
tails x y xs ys e = cc

pub left_le : {C : Type 0} (L : Language C) (xs : List ℕ) (left : ℕ) → Stuck L xs left → left ≤ length xs
left_le L xs left s = omega (arith, s.count, ap length s.split, length-append s.front s.after)

pub settles_same : {C : Type 0} (L M : Language C) → Same L M → (xs : List ℕ) (r : Result C ℕ) → Settles L xs r → Settles M xs r
settles_same L M s xs (Ok c) h = (s.0 xs c h.0, λ d m. h.1 d (s.1 xs d m))
settles_same L M s xs (Err left) h = record {
  none = λ c m. h.none c (s.1 xs c m);
  front = h.front;
  after = h.after;
  split = h.split;
  count = h.count;
  more = h.more;
  of = h.of;
  begins = s.0 _ _ h.begins;
  longest = λ u v t c e m. h.longest u v t c e (s.1 _ _ m);
}

pub reads_same : {C : Type 0} (L M : Language C) → Same L M → (f : List ℕ → Result C ℕ) → Reads L f → Reads M f
reads_same L M s f h = record { live = (h.live.0, h.live.1, s.0 _ _ h.live.2); settles = λ xs. settles_same L M s xs (f xs) (h.settles xs) }

-- D is what L goes on with after the byte x
pub record Derives {C : Type 0} (x : ℕ) (L D : Language C) : Type 0 where
  pub into : (xs : List ℕ) (c : C) → L (x ∷ xs) c → D xs c
  pub back : (xs : List ℕ) (c : C) → D xs c → L (x ∷ xs) c

step_longest : {C : Type 0} (x : ℕ) (L D : Language C) → Derives x L D → (ys : List ℕ) (left : ℕ) → Stuck D ys left → (u v t : List ℕ) (c : C) → x ∷ ys ≡ u ++ v → L (u ++ t) c → left ≤ length v
step_longest x L D d ys left s [] v t c e m = omega (arith, left_le D ys left s, ap length e)
step_longest {C} x L D d ys left s (y ∷ u) v t c e m =
    let P : ℕ → Type 0 = λ z. L (z ∷ (u ++ t)) c in
    s.longest u v t c (tails x y ys (u ++ v) e) (d.into (u ++ t) c (subst P (sym (heads x y ys (u ++ v) e)) m))

pub step : {C : Type 0} (x : ℕ) (L D : Language C) → Derives x L D → (ys : List ℕ) (r : Result C ℕ) → Settles D ys r → Settles L (x ∷ ys) r
step x L D d ys (Ok c) s = (d.back ys c s.0, λ e m. s.1 e (d.into ys e m))
step x L D d ys (Err left) s = record {
  none = λ c m. s.none c (d.into ys c m);
  front = x ∷ s.front;
  after = s.after;
  split = ap (λ (t : List ℕ). x ∷ t) s.split;
  count = s.count;
  more = s.more;
  of = s.of;
  begins = d.back _ _ s.begins;
  longest = step_longest x L D d ys left s;
}

-- no word begins with the byte
abbrev pub Never : {C : Type 0} → ℕ → Language C → Type 0
Never {C} x L = (xs : List ℕ) (c : C) → L (x ∷ xs) c → ⊥

-- no word begins with a byte that passes
abbrev pub Apart : {C : Type 0} → (ℕ → Bool) → Language C → Type 0
Apart {C} test L = (x : ℕ) → test x ≡ true → Never x L

stop_longest : {C : Type 0} (x : ℕ) (L : Language C) → Never x L → (ys : List ℕ) → (u v t : List ℕ) (c : C) → x ∷ ys ≡ u ++ v → L (u ++ t) c → length (x ∷ ys) ≤ length v
stop_longest x L n ys [] v t c e m = omega (arith, ap length e)
stop_longest {C} x L n ys (y ∷ u) v t c e m =
    let P : ℕ → Type 0 = λ z. L (z ∷ (u ++ t)) c in
    absurd (n (u ++ t) c (subst P (sym (heads x y ys (u ++ v) e)) m))

pub stop : {C : Type 0} (x : ℕ) (L : Language C) → Live L → Never x L → (ys : List ℕ) → Settles L (x ∷ ys) (Err (length (x ∷ ys)))
stop x L live n ys = record {
  none = λ c m. n ys c m;
  front = [];
  after = x ∷ ys;
  split = refl;
  count = refl;
  more = live.0;
  of = live.1;
  begins = live.2;
  longest = stop_longest x L n ys;
}

pub ends : {C : Type 0} (L : Language C) → Live L → ((c : C) → L [] c → ⊥) → Settles L [] (Err 0)
ends L live n = record {
  none = n;
  front = [];
  after = [];
  split = refl;
  count = refl;
  more = live.0;
  of = live.1;
  begins = live.2;
  longest = λ u v t c e m. omega arith;
}

-- L and M have the same words that begin with x
same_longest : {C : Type 0} (x : ℕ) (L M : Language C) → ((xs : List ℕ) (c : C) → M (x ∷ xs) c → L (x ∷ xs) c) → (ys : List ℕ) (left : ℕ) → Stuck L (x ∷ ys) left → (u v t : List ℕ) (c : C) → x ∷ ys ≡ u ++ v → M (u ++ t) c → left ≤ length v
same_longest x L M s ys left h [] v t c e m = omega (arith, left_le L (x ∷ ys) left h, ap length e)
same_longest {C} x L M s ys left h (y ∷ u) v t c e m =
    let P : ℕ → Type 0 = λ z. M (z ∷ (u ++ t)) c in
    let Q : ℕ → Type 0 = λ z. L (z ∷ (u ++ t)) c in
    let eq : x ≡ y = heads x y ys (u ++ v) e in
    h.longest (y ∷ u) v t c e (subst Q eq (s (u ++ t) c (subst P (sym eq) m)))

pub same_at : {C : Type 0} (x : ℕ) (L M : Language C) → Within L M → ((xs : List ℕ) (c : C) → M (x ∷ xs) c → L (x ∷ xs) c) → (ys : List ℕ) (r : Result C ℕ) → Settles L (x ∷ ys) r → Settles M (x ∷ ys) r
same_at x L M w s ys (Ok c) h = (w _ _ h.0, λ d m. h.1 d (s ys d m))
same_at x L M w s ys (Err left) h = record {
  none = λ c m. h.none c (s ys c m);
  front = h.front;
  after = h.after;
  split = h.split;
  count = h.count;
  more = h.more;
  of = h.of;
  begins = w _ _ h.begins;
  longest = same_longest x L M s ys left h;
}

pub same_nil : {C : Type 0} (L M : Language C) → Within L M → ((c : C) → M [] c → L [] c) → (r : Result C ℕ) → Settles L [] r → Settles M [] r
same_nil L M w s (Ok c) h = (w _ _ h.0, λ d m. h.1 d (s d m))
same_nil L M w s (Err left) h = record {
  none = λ c m. h.none c (s c m);
  front = h.front;
  after = h.after;
  split = h.split;
  count = h.count;
  more = h.more;
  of = h.of;
  begins = w _ _ h.begins;
  longest = λ u v t c e m. omega (arith, left_le L [] left h);
}

-- One step of the loop over the options of a command.
use Rattle.std.proofs.Common.{◌≡◌, ℕ, zero, suc, ◌+◌, ◌-◌, ◌≤◌, length, length-append, true, false, cond, List, [], ◌∷◌, ◌++◌, Result, Ok, Err, refl, sym, ap, ◌∙◌, arith}
use Rattle.cmd_text.specs.Reading.{◌>>=◌, read, skip_at}
use Rattle.cmd_text.specs.ReadingOptions.{option_comes, pushed_at, more_at}

module _ {A : Type 0} where
  abbrev ended : List A → List ℕ → Result (List A × List ℕ) ℕ
  ended front xs = Ok (front, xs)

  -- the list is full, or no other option comes
  pub more_full : (one : List ℕ → Result (A × List ℕ) ℕ) (k : ℕ) (front : List A) (xs : List ℕ) → k ≡ 0 → more_at one k front xs ≡ Ok (front, skip_at xs)
  more_full one k front xs e = ap (λ n. more_at one n front xs) e

  pub more_end : (one : List ℕ → Result (A × List ℕ) ℕ) (k : ℕ) (front : List A) (xs : List ℕ) → option_comes xs ≡ false → more_at one k front xs ≡ Ok (front, skip_at xs)
  more_end one zero front xs e = refl
  more_end one (suc k) front xs e = ap (λ b. cond b (one (skip_at xs) >>= λ o. more_at one k (front ++ o.0 ∷ []) o.1) (ended front (skip_at xs))) e

  pub more_next : (one : List ℕ → Result (A × List ℕ) ℕ) (k j : ℕ) (front : List A) (xs : List ℕ) → k ≡ suc j → option_comes xs ≡ true → more_at one k front xs ≡ (one (skip_at xs) >>= λ o. more_at one j (front ++ o.0 ∷ []) o.1)
  more_next one k j front xs e c =
      ap (λ n. more_at one n front xs) e ∙ ap (λ b. cond b (one (skip_at xs) >>= λ o. more_at one j (front ++ o.0 ∷ []) o.1) (ended front (skip_at xs))) c

  pub more_step : (one : List ℕ → Result (A × List ℕ) ℕ) (k j : ℕ) (front : List A) (xs rest : List ℕ) (o : A) → k ≡ suc j → option_comes xs ≡ true → one (skip_at xs) ≡ Ok (o, rest) → more_at one k front xs ≡ more_at one j (front ++ o ∷ []) rest
  more_step one k j front xs rest o e c r = more_next one k j front xs e c ∙ ap (λ z. z >>= λ o. more_at one j (front ++ o.0 ∷ []) o.1) r

  pub more_fail : (one : List ℕ → Result (A × List ℕ) ℕ) (k j : ℕ) (front : List A) (xs : List ℕ) (left : ℕ) → k ≡ suc j → option_comes xs ≡ true → one (skip_at xs) ≡ Err left → more_at one k front xs ≡ Err left
  more_fail one k j front xs left e c r = more_next one k j front xs e c ∙ ap (λ z. z >>= λ o. more_at one j (front ++ o.0 ∷ []) o.1) r

  -- a turn of the loop keeps what the whole is read as
  pub more_kept : (one : List ℕ → Result (A × List ℕ) ℕ) (list new : List A) (rest next after : List ℕ) (o : A) (whole : Result (List A × List ℕ) ℕ) → length list ≤ 8 → (length list ≡ 8 → ⊥) → option_comes rest ≡ true
      → after ≡ skip_at rest → one after ≡ Ok (o, next) → new ≡ list ++ o ∷ [] → more_at one (8 - length list) list rest ≡ whole → (length new ≤ 8) × (more_at one (8 - length new) new next ≡ whole)
  more_kept one list new rest next after o whole few room comes skipped r pushed reads =
      let l : length new ≡ length list + 1 = ap length pushed ∙ length-append list (o ∷ []) in
      let k : 8 - length list ≡ suc (7 - length list) = omega arith in
      let j : 8 - length new ≡ 7 - length list = omega arith in (
        omega arith,
        ap (λ n. more_at one n new next) j ∙ ap (λ (xs : List A). more_at one (7 - length list) xs next) pushed ∙ sym (more_step one (8 - length list) (7 - length list) list rest next o k comes (ap one (sym skipped) ∙ r)) ∙ reads,
      )

  abbrev made : List A → List ℕ → Result (List A × List ℕ) ℕ
  made xs ys = Ok (xs, ys)

  abbrev both : List A → List ℕ → List A × List ℕ
  both xs ys = (xs, ys)

  made_same : (xs zs : List A) (ys ws : List ℕ) → made xs ys ≡ made zs ws → both xs ys ≡ both zs ws
  made_same xs zs ys ws e = cc

  made_list : (xs zs : List A) (ys ws : List ℕ) → made xs ys ≡ made zs ws → zs ≡ xs
  made_list xs zs ys ws e = sym (ap (λ (p : List A × List ℕ). p.0) (made_same xs zs ys ws e))

  made_rest : (xs zs : List A) (ys ws : List ℕ) → made xs ys ≡ made zs ws → ys ≡ ws
  made_rest xs zs ys ws e = ap (λ (p : List A × List ℕ). p.1) (made_same xs zs ys ws e)

  abbrev pair : A → List ℕ → Result (A × List ℕ) ℕ
  pair x ys = Ok (x, ys)

  abbrev unmade : ℕ → Result (List A × List ℕ) ℕ
  unmade l = Err l

  unmade_left : (l m : ℕ) → unmade l ≡ unmade m → l ≡ m
  unmade_left l m e = cc

  -- a turn of the loop that read an option to the end of the list
  pub more_pushed : (one : List ℕ → Result (A × List ℕ) ℕ) (list new : List A) (rest next after : List ℕ) (whole : Result (List A × List ℕ) ℕ) → length list ≤ 8 → (length list ≡ 8 → ⊥) → option_comes rest ≡ true
      → after ≡ skip_at rest → pushed_at one list after ≡ Ok (new, next) → more_at one (8 - length list) list rest ≡ whole → (length new ≤ 8) × (more_at one (8 - length new) new next ≡ whole)
  more_pushed one list new rest next after whole few room comes skipped pushed reads = by (one after) refl pushed
    where
      by : (r : Result (A × List ℕ) ℕ) → one after ≡ r → (r >>= λ o. Ok (read (list ++ o.0 ∷ []) o.1)) ≡ made new next → (length new ≤ 8) × (more_at one (8 - length new) new next ≡ whole)
      by (Ok x) e p = more_kept one list new rest next after x.0 whole few room comes skipped (e ∙ ap (λ (ys : List ℕ). pair x.0 ys) (made_rest (list ++ x.0 ∷ []) new x.1 next p)) (made_list (list ++ x.0 ∷ []) new x.1 next p) reads
      by (Err left) e p = absurd cc

  -- a turn that could not
  pub more_unread : (one : List ℕ → Result (A × List ℕ) ℕ) (list : List A) (rest after : List ℕ) (left : ℕ) (whole : Result (List A × List ℕ) ℕ) → length list ≤ 8 → (length list ≡ 8 → ⊥) → option_comes rest ≡ true
      → after ≡ skip_at rest → pushed_at one list after ≡ Err left → more_at one (8 - length list) list rest ≡ whole → whole ≡ Err left
  more_unread one list rest after left whole few room comes skipped pushed reads = by (one after) refl pushed
    where
      k : 8 - length list ≡ suc (7 - length list)
      k = omega arith

      by : (r : Result (A × List ℕ) ℕ) → one after ≡ r → (r >>= λ o. Ok (read (list ++ o.0 ∷ []) o.1)) ≡ unmade left → whole ≡ Err left
      by (Ok x) e p = absurd cc
      by (Err m) e p = sym reads ∙ more_fail one (8 - length list) (7 - length list) list rest m k comes (ap one (sym skipped) ∙ e) ∙ ap unmade (unmade_left m left p)

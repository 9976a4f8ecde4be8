-- The first window that shows a pixel, from the top, is the same in two orders in which no window that shows it is put
-- higher.
use Rattle.std.proofs.Common.{◌≡◌, ℕ, Bool, true, false, cond, ◌||◌, List, [], ◌∷◌, Option, Some, None, refl, sym, ap, ◌∙◌}
use Rattle.std.specs.List.{find, list_any}
use Rattle.std.proofs.lemmas.Bool.{true≢false, cond-true, cond-false}
use Rattle.widget_model.specs.Keys.{same_key}
use Rattle.widget_model.proofs.Hanging.{find-passes}
use Rattle.machine_model.specs.Damage.{is_over}
use Rattle.machine_model.proofs.DamageKeys.{same_key-is, same_key-from, find-stands}

-- the first one that passes is over each other one that passes
pub first_over : (test : ℕ × List ℕ → Bool) (windows : List (ℕ × List ℕ)) (first other : ℕ × List ℕ) → find test windows ≡ Some first → list_any (same_key other) windows ≡ true → test other ≡ true → same_key other first ≡ false → is_over same_key windows first other ≡ true
first_over test [] first other found there passes apart = absurd (cc)
first_over test (window ∷ windows) first other found there passes apart = by (λ found there. first_over test windows first other found there passes apart) (test window) refl found
  where
    not_here : (same_key other window ≡ false) → list_any (same_key other) windows ≡ true
    not_here h = sym (ap (λ b. b || list_any (same_key other) windows) h) ∙ there

    by : (find test windows ≡ Some first → list_any (same_key other) windows ≡ true → is_over same_key windows first other ≡ true) → (b : Bool) → test window ≡ b → cond b (Some window) (find test windows) ≡ Some first → is_over same_key (window ∷ windows) first other ≡ true
    by rest true h found =
        let same : window ≡ first = cc in
        cond-true (same_key first window) _ _ (same_key-from first window (sym same)) ∙ not_here (ap (same_key other) same ∙ apart)
    by rest false h found =
        let skips : same_key first window ≡ false = differs first (find-passes test windows first found) in
        cond-false (same_key first window) _ _ skips ∙ rest found (not_here (differs other passes))
      where
        differs : (key : ℕ × List ℕ) → test key ≡ true → same_key key window ≡ false
        differs key passes = inner (same_key key window) refl
          where
            inner : (b : Bool) → same_key key window ≡ b → b ≡ false
            inner true same = absurd (true≢false (sym passes ∙ (ap test (same_key-is key window same) ∙ h)))
            inner false same = refl

-- a window that is over another one stands in the order
pub over_stands : (windows : List (ℕ × List ℕ)) (upper lower : ℕ × List ℕ) → is_over same_key windows upper lower ≡ true → list_any (same_key upper) windows ≡ true
over_stands [] upper lower over = absurd (true≢false (sym over))
over_stands (window ∷ windows) upper lower over = by (over_stands windows upper lower) (same_key upper window) over
  where
    by : (is_over same_key windows upper lower ≡ true → list_any (same_key upper) windows ≡ true) → (b : Bool) → cond b (list_any (same_key lower) windows) (is_over same_key windows upper lower) ≡ true → (b || list_any (same_key upper) windows) ≡ true
    by rest true over = refl
    by rest false over = rest over

-- what passes the one test in the one list passes the other in the other
abbrev pub Passes : (ℕ × List ℕ → Bool) → List (ℕ × List ℕ) → (ℕ × List ℕ → Bool) → List (ℕ × List ℕ) → Type 0
Passes test windows test' windows' =
    (window : ℕ × List ℕ) → list_any (same_key window) windows ≡ true → test window ≡ true → (list_any (same_key window) windows' ≡ true) × (test' window ≡ true)

-- what is found by a test stands in the list and passes
pub found_passes : (test : ℕ × List ℕ → Bool) (windows : List (ℕ × List ℕ)) (window : ℕ × List ℕ) → find test windows ≡ Some window → (list_any (same_key window) windows ≡ true) × (test window ≡ true)
found_passes test windows window found = (find-stands test windows window found, find-passes test windows window found)

-- what stands in the list and passes is found, or one before it
pub not_missed : (test : ℕ × List ℕ → Bool) (windows : List (ℕ × List ℕ)) (window : ℕ × List ℕ) → find test windows ≡ None → list_any (same_key window) windows ≡ true → test window ≡ true → ⊥
not_missed test [] window none there passes = true≢false (sym there)
not_missed test (first ∷ windows) window none there passes = by (not_missed test windows window) (test first) refl none (same_key window first) refl there
  where
    by : (find test windows ≡ None → list_any (same_key window) windows ≡ true → test window ≡ true → ⊥) → (b : Bool) → test first ≡ b → cond b (Some first) (find test windows) ≡ None → (c : Bool) → same_key window first ≡ c → (c || list_any (same_key window) windows) ≡ true → ⊥
    by rest true h none c same there = absurd (cc)
    by rest false h none true same there = true≢false (sym passes ∙ (ap test (same_key-is window first same) ∙ h))
    by rest false h none false same there = rest none there passes

pub same_first : (test test' : ℕ × List ℕ → Bool) (windows windows' : List (ℕ × List ℕ)) → Passes test windows test' windows' → Passes test' windows' test windows → ((other window : ℕ × List ℕ) → list_any (same_key window) windows' ≡ true → test' window ≡ true → is_over same_key windows other window ≡ true → is_over same_key windows' window other ≡ true → ⊥) → find test windows ≡ find test' windows'
same_first test test' windows windows' forth back unmoved = by (find test windows) refl (find test' windows') refl
  where
    by : (a : Option (ℕ × List ℕ)) → find test windows ≡ a → (b : Option (ℕ × List ℕ)) → find test' windows' ≡ b → find test windows ≡ find test' windows'
    by None a None b = a ∙ sym b
    by None a (Some v) b =
        let is = found_passes test' windows' v b in
        let was = back v is.0 is.1 in
        absurd (not_missed test windows v a was.0 was.1)
    by (Some w) a None b =
        let was = found_passes test windows w a in
        let is = forth w was.0 was.1 in
        absurd (not_missed test' windows' w b is.0 is.1)
    by (Some w) a (Some v) b = inner (same_key v w) refl
      where
        inner : (c : Bool) → same_key v w ≡ c → find test windows ≡ find test' windows'
        inner true same = a ∙ (ap Some (sym (same_key-is v w same)) ∙ sym b)
        inner false same =
            let is = found_passes test' windows' v b in
            let was = found_passes test windows w a in
            let v_was = back v is.0 is.1 in
            let w_is = forth w was.0 was.1 in
            let other_way : same_key w v ≡ false = turned (same_key w v) refl in
            absurd (unmoved w v is.0 is.1 (first_over test windows w v a v_was.0 v_was.1 same) (first_over test' windows' v w b w_is.0 w_is.1 other_way))
          where
            turned : (c : Bool) → same_key w v ≡ c → c ≡ false
            turned true h = absurd (true≢false (sym (same_key-from v w (sym (same_key-is w v h))) ∙ same))
            turned false h = refl

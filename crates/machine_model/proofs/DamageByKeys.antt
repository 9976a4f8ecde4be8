-- The reach is what all widgets together give it, key by key.
use Rattle.std.proofs.Common.{◌≡◌, ℕ, ℤ, Bool, true, false, ◌&&◌, ◌||◌, List, [], ◌∷◌, ◌++◌, sym, ap, ◌∙◌, ◌⊎◌, inl, inr}
use Rattle.std.specs.Cmp.{both_ways}
use Rattle.std.specs.List.{list_any}
use Rattle.std.proofs.lemmas.Bool.{true≢false, and_parts, and_from, or_left, or_right, or_cases, cond-true, cond-false, cases_Bool}
use Rattle.widget_model.specs.Keys.{same_key, root_key}
use Rattle.scene_model.specs.Scene.{Scene}
use Rattle.scene_model.specs.Showing.{shows_at, is_open_in, is_under}
use Rattle.machine_model.specs.Damage.{is_shifted, is_altered, shows_open, shows_under, keys_in, in_window, in_widget, in_reach_of, in_reach}
use Rattle.machine_model.specs.DamageLaws.{IsSound}
use Rattle.machine_model.specs.DamageKeys.{is_named_in, is_named, named_shows, in_reach_by, ReachIsByKeys}
use Rattle.machine_model.proofs.DamageKeys.{same_key-own, same_key-is, joined_left, joined_right}
use Rattle.machine_model.proofs.DamageLevels.{root_key-top}
use Rattle.machine_model.proofs.DamageScenes.{shows-stands, window_alone}
use Rattle.machine_model.proofs.OutsideDamage.{IsSteady-unshifted}

-- a key of a list that passes a test
record Passing (test : ℕ × List ℕ → Bool) (keys : List (ℕ × List ℕ)) : Type 0 where
  key : ℕ × List ℕ
  stands : list_any (same_key key) keys ≡ true
  passes : test key ≡ true

Passing-any : (test : ℕ × List ℕ → Bool) (keys : List (ℕ × List ℕ)) → list_any test keys ≡ true → Passing test keys
Passing-any test [] h = absurd (true≢false (sym h))
Passing-any test (first ∷ keys) h = by (Passing-any test keys) (or_cases (test first) (list_any test keys) h)
  where
    by : (list_any test keys ≡ true → Passing test keys) → (test first ≡ true) ⊎ (list_any test keys ≡ true) → Passing test (first ∷ keys)
    by rest (inl is) = record { key = first; stands = or_left _ _ (same_key-own first); passes = is }
    by rest (inr later) = let found = rest later in record { key = found.key; stands = or_right _ _ found.stands; passes = found.passes }

any-Passing : (test : ℕ × List ℕ → Bool) (keys : List (ℕ × List ℕ)) (key : ℕ × List ℕ) → list_any (same_key key) keys ≡ true → test key ≡ true → list_any test keys ≡ true
any-Passing test [] key stands passes = absurd (true≢false (sym stands))
any-Passing test (first ∷ keys) key stands passes = by (any-Passing test keys key) (or_cases (same_key key first) (list_any (same_key key) keys) stands)
  where
    by : (list_any (same_key key) keys ≡ true → test key ≡ true → list_any test keys ≡ true) → (same_key key first ≡ true) ⊎ (list_any (same_key key) keys ≡ true) → list_any test (first ∷ keys) ≡ true
    by rest (inl is) = or_left _ _ (ap test (sym (same_key-is key first is)) ∙ passes)
    by rest (inr later) = or_right _ _ (rest later passes)

-- what a scene shows of a window that is shifted, and of a widget that is altered in one that isn't, is named
named-shifted : (before after scene : Scene) (x y : ℤ) (window : ℕ × List ℕ) → IsSound scene → is_shifted before after window ≡ true → shows_open scene window x y ≡ true → named_shows before after scene x y window ≡ true
unfolding is_named
named-shifted before after scene x y window sound shifted shows =
    let parts = and_parts (is_open_in scene window) (shows_at scene window x y) shows in
    let root : root_key scene.rows window ≡ window = root_key-top scene window (window_alone scene window sound parts.0) in
    let here : is_named_in before after window window ≡ true = cond-true (is_shifted before after window) _ _ shifted ∙ same_key-own window in
    and_from _ _ (and_from _ _ (ap (is_open_in scene) root ∙ parts.0) (ap (λ (w : ℕ × List ℕ). is_named_in before after w window) root ∙ here)) parts.1

named-altered : (before after scene : Scene) (x y : ℤ) (window key : ℕ × List ℕ) → is_shifted before after window ≡ false → is_open_in scene window ≡ true → is_altered before after window key ≡ true → shows_under scene window key x y ≡ true → named_shows before after scene x y key ≡ true
unfolding is_named
named-altered before after scene x y window key unshifted there altered shows =
    let parts = and_parts (is_under scene window key) (shows_at scene key x y) shows in
    let root : root_key scene.rows key ≡ window = sym (same_key-is window (root_key scene.rows key) parts.0) in
    let here : is_named_in before after window key ≡ true = cond-false (is_shifted before after window) _ _ unshifted ∙ altered in
    and_from _ _ (and_from _ _ (ap (is_open_in scene) root ∙ there) (ap (λ (w : ℕ × List ℕ). is_named_in before after w key) root ∙ here)) parts.1

-- and the other way round
record Named (before after scene : Scene) (x y : ℤ) (window key : ℕ × List ℕ) : Type 0 where
  opened : is_open_in scene window ≡ true
  under : is_under scene window key ≡ true
  shows : shows_at scene key x y ≡ true
  named : is_named_in before after window key ≡ true

Named-shows : (before after scene : Scene) (x y : ℤ) (key : ℕ × List ℕ) → named_shows before after scene x y key ≡ true → Named before after scene x y (root_key scene.rows key) key
unfolding is_named
Named-shows before after scene x y key h =
    let parts = and_parts (is_open_in scene (root_key scene.rows key) && is_named_in before after (root_key scene.rows key) key) (shows_at scene key x y) h in
    let named = and_parts (is_open_in scene (root_key scene.rows key)) (is_named_in before after (root_key scene.rows key) key) parts.0 in
    record { opened = named.0; under = same_key-own (root_key scene.rows key); shows = parts.1; named = named.1 }

-- what it names of a window is of the reach of that window: `scene` is one of the two
gives : (before after scene : Scene) (x y : ℤ) (window key : ℕ × List ℕ) → Named before after scene x y window key → (shows_open scene window x y ≡ true → in_window before after window x y ≡ true) → (is_altered before after window key ≡ true → shows_under scene window key x y ≡ true → in_widget before after window x y key ≡ true) → list_any (same_key key) (keys_in before ++ keys_in after) ≡ true → in_reach_of before after x y window ≡ true
unfolding in_reach_of
gives before after scene x y window key is window_gives widget_gives stands = by (cases_Bool (is_shifted before after window))
  where
    by : (is_shifted before after window ≡ true) ⊎ (is_shifted before after window ≡ false) → in_reach_of before after x y window ≡ true
    by (inl shifted) =
        let same : window ≡ key = same_key-is window key (sym (cond-true (is_shifted before after window) _ _ shifted) ∙ is.named) in
        cond-true (is_shifted before after window) _ _ shifted ∙ window_gives (and_from _ _ is.opened (ap (λ (k : ℕ × List ℕ). shows_at scene k x y) same ∙ is.shows))
    by (inr unshifted) =
        let altered : is_altered before after window key ≡ true = sym (cond-false (is_shifted before after window) _ _ unshifted) ∙ is.named in
        cond-false (is_shifted before after window) _ _ unshifted ∙ any-Passing (in_widget before after window x y) (keys_in before ++ keys_in after) key stands (widget_gives altered (and_from _ _ is.under is.shows))

given : (before after : Scene) (x y : ℤ) (key : ℕ × List ℕ) → IsSound before → IsSound after → in_reach_by before after x y key ≡ true → in_reach before after x y ≡ true
unfolding in_reach
given before after x y key sound sound' h = by (or_cases (named_shows before after before x y key) (named_shows before after after x y key) h)
  where
    by : (named_shows before after before x y key ≡ true) ⊎ (named_shows before after after x y key ≡ true) → in_reach before after x y ≡ true
    by (inl was) =
        let is = Named-shows before after before x y key was in
        let stands = joined_left (keys_in before) (keys_in after) key (shows-stands before key x y sound.planted is.shows) in
        any-Passing (in_reach_of before after x y) (before.windows ++ after.windows) (root_key before.rows key) (joined_left before.windows after.windows (root_key before.rows key) is.opened)
        (gives before after before x y (root_key before.rows key) key is (λ shows. or_left _ _ shows) (λ altered shows. and_from _ _ altered (or_left _ _ shows)) stands)
    by (inr now) =
        let is = Named-shows before after after x y key now in
        let stands = joined_right (keys_in before) (keys_in after) key (shows-stands after key x y sound'.planted is.shows) in
        any-Passing (in_reach_of before after x y) (before.windows ++ after.windows) (root_key after.rows key) (joined_right before.windows after.windows (root_key after.rows key) is.opened)
        (gives before after after x y (root_key after.rows key) key is (λ shows. or_right _ _ shows) (λ altered shows. and_from _ _ altered (or_right _ _ shows)) stands)

-- what a window gives, some widget gives
taken_window : (before after : Scene) (x y : ℤ) (window : ℕ × List ℕ) → IsSound before → IsSound after → is_shifted before after window ≡ true → in_window before after window x y ≡ true → list_any (in_reach_by before after x y) (keys_in before ++ keys_in after) ≡ true
taken_window before after x y window sound sound' shifted h = by (or_cases (shows_open before window x y) (shows_open after window x y) h)
  where
    by : (shows_open before window x y ≡ true) ⊎ (shows_open after window x y ≡ true) → list_any (in_reach_by before after x y) (keys_in before ++ keys_in after) ≡ true
    by (inl was) =
        any-Passing (in_reach_by before after x y) (keys_in before ++ keys_in after) window
        (joined_left (keys_in before) (keys_in after) window (shows-stands before window x y sound.planted (and_parts (is_open_in before window) (shows_at before window x y) was).1))
        (or_left _ _ (named-shifted before after before x y window sound shifted was))
    by (inr now) =
        any-Passing (in_reach_by before after x y) (keys_in before ++ keys_in after) window
        (joined_right (keys_in before) (keys_in after) window (shows-stands after window x y sound'.planted (and_parts (is_open_in after window) (shows_at after window x y) now).1))
        (or_right _ _ (named-shifted before after after x y window sound' shifted now))

taken_widget : (before after : Scene) (x y : ℤ) (window key : ℕ × List ℕ) → is_shifted before after window ≡ false → is_open_in before window ≡ true → is_open_in after window ≡ true → in_widget before after window x y key ≡ true → in_reach_by before after x y key ≡ true
taken_widget before after x y window key unshifted opened opened' h = by (or_cases (shows_under before window key x y) (shows_under after window key x y) parts.1)
  where
    parts : (is_altered before after window key ≡ true) × ((shows_under before window key x y || shows_under after window key x y) ≡ true)
    parts = and_parts (is_altered before after window key) (shows_under before window key x y || shows_under after window key x y) h

    by : (shows_under before window key x y ≡ true) ⊎ (shows_under after window key x y ≡ true) → in_reach_by before after x y key ≡ true
    by (inl was) = or_left _ _ (named-altered before after before x y window key unshifted opened parts.0 was)
    by (inr now) = or_right _ _ (named-altered before after after x y window key unshifted opened' parts.0 now)

taken : (before after : Scene) (x y : ℤ) (window : ℕ × List ℕ) → IsSound before → IsSound after → in_reach_of before after x y window ≡ true → list_any (in_reach_by before after x y) (keys_in before ++ keys_in after) ≡ true
unfolding in_reach_of
taken before after x y window sound sound' h = by (cases_Bool (is_shifted before after window))
  where
    by : (is_shifted before after window ≡ true) ⊎ (is_shifted before after window ≡ false) → list_any (in_reach_by before after x y) (keys_in before ++ keys_in after) ≡ true
    by (inl shifted) = taken_window before after x y window sound sound' shifted (sym (cond-true (is_shifted before after window) _ _ shifted) ∙ h)
    by (inr unshifted) =
        let steady = IsSteady-unshifted before after window unshifted in
        let found = Passing-any (in_widget before after window x y) (keys_in before ++ keys_in after) (sym (cond-false (is_shifted before after window) _ _ unshifted) ∙ h) in
        any-Passing (in_reach_by before after x y) (keys_in before ++ keys_in after) found.key found.stands (taken_widget before after x y window found.key unshifted steady.open_before steady.open_after found.passes)

pub reach_is_by_keys : ReachIsByKeys
unfolding in_reach
reach_is_by_keys before after sound sound' x y =
    both_ways (in_reach before after x y) (list_any (in_reach_by before after x y) (keys_in before ++ keys_in after))
    (λ h. let found = Passing-any (in_reach_of before after x y) (before.windows ++ after.windows) h in taken before after x y found.key sound sound' found.passes)
    (λ h. let found = Passing-any (in_reach_by before after x y) (keys_in before ++ keys_in after) h in given before after x y found.key sound sound' found.passes)

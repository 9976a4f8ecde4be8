-- What two shots give of a row is what its widget gives the reach.
use Rattle.std.proofs.Common.{◌≡◌, ℕ, ℤ, Bool, true, false, cond, ◌&&◌, ◌||◌, not, nat_eq, List, [], ◌∷◌, ◌++◌, map, Option, Some, None, IfSome, IsSomeAnd, refl, sym, ap, ◌∙◌, ◌⊎◌, inl, inr, subst}
use Rattle.std.proofs.Math.Bool.{or-false}
use Rattle.std.specs.Cmp.{both_ways}
use Rattle.std.specs.List.{list_any}
use Rattle.std.proofs.lemmas.Bool.{true≢false, and_parts, and_from, and_left, and_right, and_cases, cases_Bool, false_from_ne_true}
use Rattle.std.proofs.lemmas.List.Folds.{list_any-append}
use Rattle.geom_core.specs.declared.rectangle.Rect.{Rect}
use Rattle.geom_core.specs.Rect.{in_rect}
use Rattle.look_core.specs.Same.{same_look}
use Rattle.widget_model.specs.Keys.{same_key, root_key}
use Rattle.widget_model.proofs.Hanging.{HangsIn-from}
use Rattle.scene_model.specs.Scene.{Scene}
use Rattle.scene_model.specs.Showing.{place_of, parent_in, shows_at, is_open_in, is_under}
use Rattle.scene_model.specs.Colours.{look_at}
use Rattle.scene_model.proofs.LevelLaws.{IsParentKey-parent_in}
use Rattle.machine_model.specs.Damage as reach
use Rattle.machine_model.specs.Damage.{same_place, same_parent, keys_in, is_put_higher}
use Rattle.machine_model.specs.DamageLaws.{IsSound}
use Rattle.machine_model.specs.DamageKeys as keyed
use Rattle.machine_model.specs.DamageKeys.{is_named_in, named_shows, in_reach_by}
use Rattle.machine_model.proofs.DamageKeys.{same_key-is, same_key-from, joined_left, joined_right}
use Rattle.machine_model.proofs.DamageLevels.{root_key-top}
use Rattle.machine_model.proofs.DamageScenes.{row_stands, window_stands, window_alone, parent_stands, shows-stands}
use Rattle.machine_model.proofs.OutsideDamage.{IsSteady-unshifted}
use Rattle.shot_core.specs.Shot.{Seen, spot_at, windows_in, numbers_of}
use Rattle.shot_core.specs.declared.spot.Spot.{Spot}
use Rattle.damage_rules.specs.Areas.{same_number, is_placed_alike, is_higher_in, is_shifted, is_kept, is_altered, is_named, area_of, areas_of}
use Rattle.damage_rules.specs.Numbering.{IsNumbering, IsSpotOf, IsShotOf, is_shown, AreLooksOf, in_areas, ReachByNumbers, NothingOfOtherNumbers, ReachIsTheirUnion}
use Rattle.damage_rules.proofs.Numbers.{Stands, nat_eq-number, same_number-parent, higher-number, numbers-placed, any-number}
use Rattle.machine_model.proofs.DamageByKeys.{reach_is_by_keys}

-- one scene, its shot, and keys among which its own are
record IsMine (number : ℕ × List ℕ → ℕ) (keys : List (ℕ × List ℕ)) (scene : Scene) (shot : Seen) : Type 0 where
  sound : IsSound scene
  own : IsNumbering number keys
  shot_is : IsShotOf number keys scene shot
  within : (key : ℕ × List ℕ) → Stands key (keys_in scene) → Stands key keys

-- the spot of a shown widget
record Spotted (number : ℕ × List ℕ → ℕ) (scene : Scene) (shot : Seen) (key : ℕ × List ℕ) : Type 0 where
  spot : Spot
  at : spot_at shot (number key) ≡ Some spot
  is : IsSpotOf number scene key spot

Spotted-shown : (number : ℕ × List ℕ → ℕ) (keys : List (ℕ × List ℕ)) (scene : Scene) (shot : Seen) (key : ℕ × List ℕ) → IsMine number keys scene shot → is_shown scene key ≡ true → Spotted number scene shot key
Spotted-shown number keys scene shot key mine shown = by (spot_at shot (number key)) refl (mine.shot_is.shown key shown)
  where
    by : (o : Option Spot) → spot_at shot (number key) ≡ o → IsSomeAnd o (IsSpotOf number scene key) → Spotted number scene shot key
    by None at h = absurd h
    by (Some spot) at h = record { spot = spot; at = at; is = h }

root_own : (scene : Scene) (window : ℕ × List ℕ) → IsSound scene → is_open_in scene window ≡ true → root_key scene.rows window ≡ window
root_own scene window sound there = root_key-top scene window (window_alone scene window sound there)

open_shown : (scene : Scene) (window : ℕ × List ℕ) → IsSound scene → is_open_in scene window ≡ true → is_shown scene window ≡ true
open_shown scene window sound there = and_from _ _ (window_stands scene window sound there) (ap (is_open_in scene) (root_own scene window sound there) ∙ there)

turned : (a b : ℕ × List ℕ) → same_key a b ≡ same_key b a
turned a b = both_ways (same_key a b) (same_key b a) (λ h. same_key-from b a (sym (same_key-is a b h))) (λ h. same_key-from a b (sym (same_key-is b a h)))

-- whether a shown widget's spot is of that window tells whether the widget is under it
spot_under : (number : ℕ × List ℕ → ℕ) (keys : List (ℕ × List ℕ)) (scene : Scene) (shot : Seen) (window key : ℕ × List ℕ) → IsMine number keys scene shot → Stands window keys → is_shown scene key ≡ true → (found : Spotted number scene shot key) → nat_eq found.spot.window (number window) ≡ is_under scene window key
spot_under number keys scene shot window key mine there shown found =
    let opened = (and_parts (Bool-stands scene key) (is_open_in scene (root_key scene.rows key)) shown).1 in
    let root_there = mine.within (root_key scene.rows key) (window_stands scene (root_key scene.rows key) mine.sound opened) in
    ap (λ (n : ℕ). nat_eq n (number window)) found.is.window ∙ (nat_eq-number number keys (root_key scene.rows key) window mine.own root_there there ∙ turned (root_key scene.rows key) window)
  where
    Bool-stands : Scene → ℕ × List ℕ → Bool
    Bool-stands s k = list_any (same_key k) (keys_in s)

-- a closed window has no spot of its own
closed : (number : ℕ × List ℕ → ℕ) (keys : List (ℕ × List ℕ)) (scene : Scene) (shot : Seen) (window : ℕ × List ℕ) → IsMine number keys scene shot → Stands window keys → is_open_in scene window ≡ false → IfSome (spot_at shot (number window)) (λ spot. nat_eq spot.window (number window) ≡ false)
closed number keys scene shot window mine there shut = by (cases_Bool (is_shown scene window))
  where
    by : (is_shown scene window ≡ true) ⊎ (is_shown scene window ≡ false) → IfSome (spot_at shot (number window)) (λ spot. nat_eq spot.window (number window) ≡ false)
    by (inl shown) =
        let found = Spotted-shown number keys scene shot window mine shown in
        let opened = (and_parts (list_any (same_key window) (keys_in scene)) (is_open_in scene (root_key scene.rows window)) shown).1 in
        let apart : is_under scene window window ≡ false = false_from_ne_true (is_under scene window window) (λ h. true≢false (sym (ap (is_open_in scene) (same_key-is window (root_key scene.rows window) h) ∙ opened) ∙ shut)) in
        subst (λ (o : Option Spot). IfSome o (λ spot. nat_eq spot.window (number window) ≡ false)) (sym found.at) (spot_under number keys scene shot window window mine there shown found ∙ apart)
    by (inr unshown) = subst (λ (o : Option Spot). IfSome o (λ spot. nat_eq spot.window (number window) ≡ false)) (sym (mine.shot_is.unshown window there unshown)) tt

not_alike : (window : ℕ) (a b : Option Spot) → IfSome a (λ spot. nat_eq spot.window window ≡ false) ⊎ IfSome b (λ spot. nat_eq spot.window window ≡ false) → is_placed_alike window a b ≡ false
not_alike window None None h = refl
not_alike window None (Some b) h = refl
not_alike window (Some a) None h = refl
not_alike window (Some a) (Some b) (inl h) = and_left _ _ (and_left _ _ h)
not_alike window (Some a) (Some b) (inr h) = and_left _ _ (and_right _ _ h)

-- two scenes, their shots, and the looks that differ
record AreShots (number : ℕ × List ℕ → ℕ) (keys : List (ℕ × List ℕ)) (before after : Scene) (shot shot' : Seen) (looks : List ℕ) : Type 0 where
  mine : IsMine number keys before shot
  mine' : IsMine number keys after shot'
  looks_are : AreLooksOf number before after looks

alike-is : (number : ℕ × List ℕ → ℕ) (keys : List (ℕ × List ℕ)) (before after : Scene) (shot shot' : Seen) (looks : List ℕ) (window : ℕ × List ℕ) → AreShots number keys before after shot shot' looks → Stands window keys → is_placed_alike (number window) (spot_at shot (number window)) (spot_at shot' (number window)) ≡ ((is_open_in before window && is_open_in after window) && same_place (place_of before window) (place_of after window))
alike-is number keys before after shot shot' looks window are there = by (is_open_in before window) refl (is_open_in after window) refl
  where
    test : Bool
    test = is_placed_alike (number window) (spot_at shot (number window)) (spot_at shot' (number window))

    by : (a : Bool) → is_open_in before window ≡ a → (b : Bool) → is_open_in after window ≡ b → is_placed_alike (number window) (spot_at shot (number window)) (spot_at shot' (number window)) ≡ ((a && b) && same_place (place_of before window) (place_of after window))
    by false a b' b = not_alike (number window) _ _ (inl (closed number keys before shot window are.mine there a))
    by true a false b = not_alike (number window) _ _ (inr (closed number keys after shot' window are.mine' there b))
    by true a true b =
        let shown = open_shown before window are.mine.sound a in
        let shown' = open_shown after window are.mine'.sound b in
        let found = Spotted-shown number keys before shot window are.mine shown in
        let found' = Spotted-shown number keys after shot' window are.mine' shown' in
        let under = spot_under number keys before shot window window are.mine there shown found ∙ same_key-from window (root_key before.rows window) (sym (root_own before window are.mine.sound a)) in
        let under' = spot_under number keys after shot' window window are.mine' there shown' found' ∙ same_key-from window (root_key after.rows window) (sym (root_own after window are.mine'.sound b)) in
        (λ i. is_placed_alike (number window) (found.at i) (found'.at i)) ∙ (λ i. (under i && under' i) && same_place (found.is.place i) (found'.is.place i))

regrouped : (q p h : Bool) → (not (q && p) || h) ≡ (not q || (not p || h))
regrouped true p h = refl
regrouped false p h = refl

shifted-is : (number : ℕ × List ℕ → ℕ) (keys : List (ℕ × List ℕ)) (before after : Scene) (shot shot' : Seen) (looks : List ℕ) (window : ℕ × List ℕ) → AreShots number keys before after shot shot' looks → Stands window keys → is_shifted shot shot' (number window) ≡ reach.is_shifted before after window
unfolding is_shifted reach.is_shifted is_put_higher
shifted-is number keys before after shot shot' looks window are there =
    (λ i. not (alike-is number keys before after shot shot' looks window are there i) || is_higher_in (order i) (order' i) (number window))
    ∙ ((λ i. not ((is_open_in before window && is_open_in after window) && same_place (place_of before window) (place_of after window)) || higher i)
    ∙ regrouped (is_open_in before window && is_open_in after window) (same_place (place_of before window) (place_of after window)) (list_any (λ other. reach.is_over same_key before.windows other window && reach.is_over same_key after.windows window other) before.windows))
  where
    order : windows_in shot ≡ map number before.windows
    order = ap numbers_of are.mine.shot_is.windows ∙ numbers-placed number (place_of before) before.windows

    order' : windows_in shot' ≡ map number after.windows
    order' = ap numbers_of are.mine'.shot_is.windows ∙ numbers-placed number (place_of after) after.windows

    higher : is_higher_in (map number before.windows) (map number after.windows) (number window) ≡ list_any (λ other. reach.is_over same_key before.windows other window && reach.is_over same_key after.windows window other) before.windows
    higher = higher-number number keys before.windows after.windows window are.mine.own there (λ k is. are.mine.within k (window_stands before k are.mine.sound is)) (λ k is. are.mine'.within k (window_stands after k are.mine'.sound is))

-- a widget that isn't shown is under no open window, and shows nothing that is named
not_under : (scene : Scene) (window key : ℕ × List ℕ) → IsSound scene → is_open_in scene window ≡ true → is_shown scene key ≡ false → is_under scene window key ≡ false
not_under scene window key sound opened unshown = false_from_ne_true (is_under scene window key) (λ h. true≢false (sym (shown h) ∙ unshown))
  where
    stands : window ≡ root_key scene.rows key → (o : Option (ℕ × List ℕ)) → parent_in scene key ≡ o → list_any (same_key key) (keys_in scene) ≡ true
    stands root None hangs = ap (λ (k : ℕ × List ℕ). list_any (same_key k) (keys_in scene)) (sym (root ∙ root_key-top scene key hangs)) ∙ window_stands scene window sound opened
    stands root (Some parent) hangs =
        let upper = IsParentKey-parent_in scene key parent hangs in
        let there = HangsIn-from scene.rows key.0 key.1 upper.name upper.hung in
        row_stands scene key there.row there.found

    shown : is_under scene window key ≡ true → is_shown scene key ≡ true
    shown h =
        let root : window ≡ root_key scene.rows key = same_key-is window (root_key scene.rows key) h in
        and_from _ _ (stands root (parent_in scene key) refl) (ap (is_open_in scene) (sym root) ∙ opened)

not_kept_left : (window : ℕ) (a b : Option Spot) → a ≡ None → is_kept window a b ≡ false
not_kept_left window None None h = refl
not_kept_left window None (Some b) h = refl
not_kept_left window (Some a) b h = absurd (cc)

not_kept_right : (window : ℕ) (a b : Option Spot) → b ≡ None → is_kept window a b ≡ false
not_kept_right window None None h = refl
not_kept_right window (Some a) None h = refl
not_kept_right window a (Some b) h = absurd (cc)

ungrouped : (u r p l : Bool) → (not (u && (r && p)) || not l) ≡ (not u || (not r || (not p || not l)))
ungrouped true true p l = refl
ungrouped true false p l = refl
ungrouped false r p l = refl

altered-is : (number : ℕ × List ℕ → ℕ) (keys : List (ℕ × List ℕ)) (before after : Scene) (shot shot' : Seen) (looks : List ℕ) (window key : ℕ × List ℕ) → AreShots number keys before after shot shot' looks → Stands window keys → Stands key keys → is_open_in before window ≡ true → is_open_in after window ≡ true → is_altered shot shot' looks (number window) (number key) ≡ reach.is_altered before after window key
unfolding is_altered reach.is_altered
altered-is number keys before after shot shot' looks window key are there key_there opened opened' = by (is_shown before key) refl (is_shown after key) refl
  where
    kept : Bool → Bool
    kept k = not k || list_any (nat_eq (number key)) looks

    rest : Bool
    rest = not (same_parent (parent_in before key) (parent_in after key)) || (not (same_place (place_of before key) (place_of after key)) || not (same_look (look_at before key) (look_at after key)))

    by : (a : Bool) → is_shown before key ≡ a → (b : Bool) → is_shown after key ≡ b → kept (is_kept (number window) (spot_at shot (number key)) (spot_at shot' (number key))) ≡ (not (is_under before window key && is_under after window key) || rest)
    by false a b' b =
        ap kept (not_kept_left (number window) _ _ (are.mine.shot_is.unshown key key_there a))
        ∙ sym (ap (λ u. not (u && is_under after window key) || rest) (not_under before window key are.mine.sound opened a))
    by true a false b =
        ap kept (not_kept_right (number window) _ _ (are.mine'.shot_is.unshown key key_there b))
        ∙ sym (ap (λ u. not u || rest) (and_right (is_under before window key) _ (not_under after window key are.mine'.sound opened' b)))
    by true a true b =
        let found = Spotted-shown number keys before shot key are.mine a in
        let found' = Spotted-shown number keys after shot' key are.mine' b in
        let under = spot_under number keys before shot window key are.mine there a found in
        let under' = spot_under number keys after shot' window key are.mine' there b found' in
        let parents : same_number found.spot.parent found'.spot.parent ≡ same_parent (parent_in before key) (parent_in after key) =
        (λ i. same_number (found.is.parent i) (found'.is.parent i))
        ∙ same_number-parent number keys (parent_in before key) (parent_in after key) are.mine.own
        (λ k is. are.mine.within k (parent_stands before key k are.mine.sound.planted is))
        (λ k is. are.mine'.within k (parent_stands after key k are.mine'.sound.planted is)) in
        (λ i. kept (is_kept (number window) (found.at i) (found'.at i)))
        ∙ ((λ i. not ((under i && under' i) && (parents i && same_place (found.is.place i) (found'.is.place i))) || are.looks_are key a b i)
        ∙ ungrouped (is_under before window key && is_under after window key) (same_parent (parent_in before key) (parent_in after key)) (same_place (place_of before key) (place_of after key)) (same_look (look_at before key) (look_at after key)))

named-is : (number : ℕ × List ℕ → ℕ) (keys : List (ℕ × List ℕ)) (before after : Scene) (shot shot' : Seen) (looks : List ℕ) (window key : ℕ × List ℕ) → AreShots number keys before after shot shot' looks → Stands window keys → Stands key keys → is_named shot shot' looks (number window) (number key) ≡ is_named_in before after window key
unfolding is_named
named-is number keys before after shot shot' looks window key are there key_there =
    (λ i. cond (shifted-is number keys before after shot shot' looks window are there i) (nat_eq-number number keys window key are.mine.own there key_there i) (is_altered shot shot' looks (number window) (number key)))
    ∙ by (reach.is_shifted before after window) refl
  where
    by : (s : Bool) → reach.is_shifted before after window ≡ s → cond s (same_key window key) (is_altered shot shot' looks (number window) (number key)) ≡ cond s (same_key window key) (reach.is_altered before after window key)
    by true s = refl
    by false s =
        let steady = IsSteady-unshifted before after window s in
        altered-is number keys before after shot shot' looks window key are there key_there steady.open_before steady.open_after

-- what one of the shots gives of the row
holds : ℤ → ℤ → List Rect → Bool
holds x y areas = list_any (λ area. in_rect area x y) areas

area-is : (number : ℕ × List ℕ → ℕ) (keys : List (ℕ × List ℕ)) (before after : Scene) (shot shot' : Seen) (looks : List ℕ) (scene : Scene) (one : Seen) (key : ℕ × List ℕ) (x y : ℤ) → AreShots number keys before after shot shot' looks → IsMine number keys scene one → Stands key keys → holds x y (area_of shot shot' looks (number key) (spot_at one (number key))) ≡ named_shows before after scene x y key
unfolding holds keyed.is_named
area-is number keys before after shot shot' looks scene one key x y are mine there = by (is_shown scene key) refl
  where
    root : ℕ × List ℕ
    root = root_key scene.rows key

    given : (n : Bool) (area : Rect) → holds x y (cond n (area ∷ []) []) ≡ (n && in_rect area x y)
    given true area = or-false (in_rect area x y)
    given false area = refl

    nothing : is_shown scene key ≡ false → ((is_open_in scene root && is_named_in before after root key) && shows_at scene key x y) ≡ false
    nothing unshown = inner (and_cases (list_any (same_key key) (keys_in scene)) (is_open_in scene root) unshown)
      where
        inner : (list_any (same_key key) (keys_in scene) ≡ false) ⊎ (is_open_in scene root ≡ false) → ((is_open_in scene root && is_named_in before after root key) && shows_at scene key x y) ≡ false
        inner (inl absent) = and_right (is_open_in scene root && is_named_in before after root key) _ (false_from_ne_true (shows_at scene key x y) (λ shows. true≢false (sym (shows-stands scene key x y mine.sound.planted shows) ∙ absent)))
        inner (inr shut) = and_left _ _ (and_left _ _ shut)

    by : (s : Bool) → is_shown scene key ≡ s → holds x y (area_of shot shot' looks (number key) (spot_at one (number key))) ≡ ((is_open_in scene root && is_named_in before after root key) && shows_at scene key x y)
    by true shown =
        let found = Spotted-shown number keys scene one key mine shown in
        let opened = (and_parts (list_any (same_key key) (keys_in scene)) (is_open_in scene root) shown).1 in
        let root_there = mine.within root (window_stands scene root mine.sound opened) in
        let named : is_named shot shot' looks found.spot.window (number key) ≡ is_named_in before after root key =
        ap (λ (w : ℕ). is_named shot shot' looks w (number key)) found.is.window ∙ named-is number keys before after shot shot' looks root key are root_there there in
        ap (λ (o : Option Spot). holds x y (area_of shot shot' looks (number key) o)) found.at
        ∙ (given (is_named shot shot' looks found.spot.window (number key)) found.spot.shown
        ∙ ((λ i. named i && found.is.shown x y i)
        ∙ sym (ap (λ b. (b && is_named_in before after root key) && shows_at scene key x y) opened)))
    by false unshown = ap (λ (o : Option Spot). holds x y (area_of shot shot' looks (number key) o)) (mine.shot_is.unshown key there unshown) ∙ sym (nothing unshown)

pub reach_by_numbers : ReachByNumbers
unfolding areas_of holds
reach_by_numbers number before after shot shot' looks n key there x y =
    let keys = keys_in before ++ keys_in after in
    let mine : IsMine number keys before shot = record { sound = n.sound_before; own = n.own; shot_is = n.shot_before; within = λ k stands. joined_left (keys_in before) (keys_in after) k stands } in
    let mine' : IsMine number keys after shot' = record { sound = n.sound_after; own = n.own; shot_is = n.shot_after; within = λ k stands. joined_right (keys_in before) (keys_in after) k stands } in
    let are : AreShots number keys before after shot shot' looks = record { mine = mine; mine' = mine'; looks_are = n.looks_differ } in
    let was = area-is number keys before after shot shot' looks before shot key x y are mine there in
    let now = area-is number keys before after shot shot' looks after shot' key x y are mine' there in
    list_any-append (λ (area : Rect). in_rect area x y) (area_of shot shot' looks (number key) (spot_at shot (number key))) (area_of shot shot' looks (number key) (spot_at shot' (number key)))
    ∙ (λ i. was i || now i)

pub nothing_of_other_numbers : NothingOfOtherNumbers
unfolding areas_of
nothing_of_other_numbers number before after shot shot' looks n id other =
    λ i. area_of shot shot' looks id (n.shot_before.others id other i) ++ area_of shot shot' looks id (n.shot_after.others id other i)

pub reach_is_their_union : ReachIsTheirUnion
reach_is_their_union number before after shot shot' looks n x y =
    reach_is_by_keys before after n.sound_before n.sound_after x y
    ∙ sym (any-number number (in_areas shot shot' looks x y) (in_reach_by before after x y) (keys_in before ++ keys_in after) (λ key there. reach_by_numbers number before after shot shot' looks n key there x y))

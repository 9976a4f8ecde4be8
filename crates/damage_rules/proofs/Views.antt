-- What the shots of two views give of all numbers is the reach between their scenes.
use Rattle.std.proofs.Common.{◌≡◌, ℕ, suc, zero, ◌<◌, pos, Bool, true, false, ◌&&◌, ◌||◌, not, nat_eq, List, [], ◌∷◌, ◌++◌, map, slice_get, Option, Some, None, IsSomeAnd, zero-add, ◌⊎◌, inl, inr, refl, sym, ap, ◌∙◌, All, subst}
use Rattle.std.specs.Cmp.{both_ways}
use Rattle.std.specs.List.{list_any, range_with_len}
use Rattle.std.specs.Option.{option_map, option_map_or, option_and_then}
use Rattle.std.proofs.lemmas.Bool.{true≢false, and_parts, cases_Bool, eqb-true, eq-eqb, or_left, or_right}
use Rattle.std.proofs.lemmas.List.Folds.{list_any-append}
use Rattle.std.proofs.lemmas.List.FromFn.{length-range_with_len, get_or-range_with_len}
use Rattle.std.proofs.lemmas.Option.{slice_get-get_or}
use Rattle.std.proofs.lemmas.List.Elements.{All-head, All-tail}
use Rattle.geom_core.specs.declared.rectangle.Rect.{Rect}
use Rattle.geom_core.specs.Rect.{in_rect}
use Rattle.kind_core.specs.declared.kinds.Kind.TheVariants.{Window}
use Rattle.look_core.specs.Seen as drawn
use Rattle.look_core.specs.Same.{same_look}
use Rattle.widget_model.specs.Rows.{Row}
use Rattle.widget_model.specs.Nodes.{id_named}
use Rattle.widget_model.specs.Keys.{key_of, same_key, parent_key, root_key}
use Rattle.widget_model.specs.Widgets.{Widgets, rows_of, row_at, row_kind, key_at, nodes}
use Rattle.widget_model.specs.Forest.{IsWidgets}
use Rattle.tree_core.specs.declared.pointer.Pointer.{Pointer}
use Rattle.tree_core.proofs.Listed.{any_at, any_place}
use Rattle.scene_model.specs.Placing.{place_in}
use Rattle.scene_model.specs.Showing.{place_of, parent_in, shows_at}
use Rattle.scene_model.specs.Colours.{look_at}
use Rattle.scene_core.specs.View.{keys_of, scene_from}
use Rattle.view_shots.specs.Shots.{place_by, is_shown_id, IsSpotBy, IsShotBy}
use Rattle.view_shots.proofs.ShotSteps.{number-low}
use Rattle.machine_model.proofs.DamageKeys.{same_key-own, same_key-is, joined_left, joined_right}
use Rattle.machine_model.proofs.DamageScenes.{parent_stands}
use Rattle.shot_core.specs.Shot as shots
use Rattle.shot_core.specs.Shot.{Seen, spot_at}
use Rattle.shot_core.specs.declared.spot.Spot.{Spot}
use Rattle.damage_rules.specs.Numbering.{IsNumbering, IsSpotOf, IsShotOf, is_shown, AreLooksOf, AreNumbered, in_areas}
use Rattle.damage_rules.specs.Views.{KeepsNumbers, Sight, scene_in, look_by, has_other_look, AreSeen, ReachOfViews}
use Rattle.damage_rules.proofs.Numbers.{Stands}
use Rattle.damage_rules.proofs.ByNumbers.{nothing_of_other_numbers, reach_is_their_union}
use Rattle.damage_rules.proofs.ViewNumbers.{named-at, at-named, row-same, stands-at, at-stands, root-named, shown-same, shown-live, sound-view, parent-named, key-live}

-- the number of a key, before or after
abbrev number_in : Widgets → Widgets → ℕ × List ℕ → ℕ
number_in before after key = option_map_or (λ id. id) (id_named (nodes before.entries) key.0 key.1) (option_map_or (λ id. id) (id_named (nodes after.entries) key.0 key.1) 0)

-- a numbering of keys that tells those of one view's widgets
record TellsKeys (number : ℕ × List ℕ → ℕ) (keys : List (ℕ × List ℕ)) (widgets : Widgets) : Type 0 where
  valid : IsWidgets widgets
  within : (key : ℕ × List ℕ) → Stands key (map key_of (rows_of widgets)) → Stands key keys
  back : (id : ℕ) (key : ℕ × List ℕ) → key_at widgets.entries id ≡ Some key → number key ≡ id
  only : (id : ℕ) (key key' : ℕ × List ℕ) → Stands key keys → number key ≡ id → key_at widgets.entries id ≡ Some key' → key ≡ key'

-- the number of a key is among the numbers of the keys
number-any : (number : ℕ × List ℕ → ℕ) (keys : List (ℕ × List ℕ)) (id : ℕ) (key : ℕ × List ℕ) → Stands key keys → number key ≡ id → list_any (nat_eq id) (map number keys) ≡ true
number-any number [] id key there is = absurd (true≢false (sym there))
number-any number (k ∷ keys) id key there is = by (same_key key k) refl there (λ later. number-any number keys id key later is)
  where
    by : (b : Bool) → same_key key k ≡ b → (b || list_any (same_key key) keys) ≡ true → (Stands key keys → list_any (nat_eq id) (map number keys) ≡ true) → (nat_eq id (number k) || list_any (nat_eq id) (map number keys)) ≡ true
    by true same h rest = or_left _ _ (eq-eqb id (number k) (sym is ∙ ap number (same_key-is key k same)))
    by false differ h rest = or_right _ _ (rest h)

module _ (number : ℕ × List ℕ → ℕ) (keys : List (ℕ × List ℕ)) (widgets : Widgets) (windows : List ℕ) (pointer : Pointer) (width height : ℕ) (shot : Seen) (tells : TellsKeys number keys widgets) (is : IsShotBy widgets windows pointer width height shot) where
  -- the spot of a number is that of its key
  spot-of : (id : ℕ) (key : ℕ × List ℕ) (spot : Spot) → key_at widgets.entries id ≡ Some key → IsSpotBy widgets (scene_from widgets windows pointer width height) id spot → IsSpotOf number (scene_from widgets windows pointer width height) key spot
  unfolding parent_in place_of
  spot-of id key spot at of = record {
    parent = of.parent ∙ parent-named widgets id key tells.valid at ∙ parents (parent_key (rows_of widgets) key) refl;
    window = sym (numbered (root_key (rows_of widgets) key) spot.window (sym (root-named widgets id key at) ∙ of.window));
    place = of.place ∙ ap (λ (o : Option Row). option_map_or (place_in (rows_of widgets)) o (record { x = pos 0; y = pos 0; w = 0; h = 0 })) (sym (row-same widgets id key tells.valid at));
    shown = λ x y. of.shown x y ∙ ap (λ (o : Option (ℕ × List ℕ)). option_map_or (λ (k : ℕ × List ℕ). shows_at (scene_from widgets windows pointer width height) k x y) o false) at;
  }
    where
      numbered : (k : ℕ × List ℕ) (n : ℕ) → id_named (nodes widgets.entries) k.0 k.1 ≡ Some n → number k ≡ n
      numbered k n named = tells.back n k (at-named widgets n k tells.valid named)

      upper : (k : ℕ × List ℕ) → (n : ℕ) × (key_at widgets.entries n ≡ Some k) → id_named (nodes widgets.entries) k.0 k.1 ≡ Some (number k)
      upper k at = named-at widgets at.0 k tells.valid at.1 ∙ ap (λ (n : ℕ). Some n) (sym (tells.back at.0 k at.1))

      parents : (o : Option (ℕ × List ℕ)) → parent_key (rows_of widgets) key ≡ o → option_and_then (λ (k : ℕ × List ℕ). id_named (nodes widgets.entries) k.0 k.1) o ≡ option_map number o
      parents None q = refl
      parents (Some k) q = upper k (stands-at widgets k tells.valid (parent_stands (scene_from widgets windows pointer width height) key k tells.valid.rows.planted q))

  shot-of : All (λ (id : ℕ). row_kind widgets.entries id ≡ Some Window) windows → IsShotOf number keys (scene_from widgets windows pointer width height) shot
  unfolding place_of
  shot-of each = record {
    windows = is.order ∙ order windows each;
    shown = λ key shown. found key shown (stands-at widgets key tells.valid (stands key shown));
    unshown = λ key there hidden. none key there hidden (cases_Bool (is_shown_id widgets windows (number key)));
    others = λ id other. absent id other (cases_Bool (is_shown_id widgets windows id));
  }
    where
      P : ℕ → Type 0
      P id = row_kind widgets.entries id ≡ Some Window

      order : (ids : List ℕ) → All (λ (id : ℕ). row_kind widgets.entries id ≡ Some Window) ids
          → map (λ (id : ℕ). let entry : ℕ × Rect = (id, place_by widgets id) in entry) ids ≡ map (λ (key : ℕ × List ℕ). let entry : ℕ × Rect = (number key, place_of (scene_from widgets windows pointer width height) key) in entry) (keys_of widgets.entries ids)
      order [] kinds = refl
      order (id ∷ ids) kinds = by (row_at widgets.entries id) refl (All-head P id ids kinds) (order ids (All-tail P id ids kinds))
        where
          entry : ℕ × List ℕ → ℕ × Rect
          entry key = (number key, place_of (scene_from widgets windows pointer width height) key)

          by : (o : Option Row) → row_at widgets.entries id ≡ o → option_map (λ (row : Row). row.kind) o ≡ Some Window
              → map (λ (n : ℕ). let e : ℕ × Rect = (n, place_by widgets n) in e) ids ≡ map (λ (key : ℕ × List ℕ). let e : ℕ × Rect = (number key, place_of (scene_from widgets windows pointer width height) key) in e) (keys_of widgets.entries ids)
              → map (λ (n : ℕ). let e : ℕ × Rect = (n, place_by widgets n) in e) (id ∷ ids) ≡ map (λ (key : ℕ × List ℕ). let e : ℕ × Rect = (number key, place_of (scene_from widgets windows pointer width height) key) in e) (keys_of widgets.entries (id ∷ ids))
          by None q kind rest = absurd (cc)
          by (Some row) q kind rest =
              let at : key_at widgets.entries id ≡ Some (key_of row) = ap (option_map key_of) q in
              let same : place_by widgets id ≡ place_of (scene_from widgets windows pointer width height) (key_of row) = ap (λ (o : Option Row). option_map_or (place_in (rows_of widgets)) o (record { x = pos 0; y = pos 0; w = 0; h = 0 })) (sym (row-same widgets id (key_of row) tells.valid at)) in
              (λ i. (sym (tells.back id (key_of row) at) i, same i) ∷ rest i)
              ∙ sym (ap (λ (o : Option (ℕ × List ℕ)). map (λ (key : ℕ × List ℕ). let e : ℕ × Rect = (number key, place_of (scene_from widgets windows pointer width height) key) in e) (option_map_or (λ (k : ℕ × List ℕ). k ∷ keys_of widgets.entries ids) o (keys_of widgets.entries ids))) at)

      stands : (key : ℕ × List ℕ) → is_shown (scene_from widgets windows pointer width height) key ≡ true → Stands key (map key_of (rows_of widgets))
      stands key shown = (and_parts (list_any (same_key key) (map key_of (rows_of widgets))) (list_any (same_key (root_key (rows_of widgets) key)) (keys_of widgets.entries windows)) shown).0

      found : (key : ℕ × List ℕ) → is_shown (scene_from widgets windows pointer width height) key ≡ true → (id : ℕ) × (key_at widgets.entries id ≡ Some key) → IsSomeAnd (spot_at shot (number key)) (IsSpotOf number (scene_from widgets windows pointer width height) key)
      found key shown at =
          by (spot_at shot at.0) refl (is.shown at.0 (sym (shown-same widgets windows pointer width height at.0 key tells.valid at.1) ∙ shown))
        where
          by : (o : Option Spot) → spot_at shot at.0 ≡ o → IsSomeAnd o (IsSpotBy widgets (scene_from widgets windows pointer width height) at.0) → IsSomeAnd (spot_at shot (number key)) (IsSpotOf number (scene_from widgets windows pointer width height) key)
          by None q h = absurd h
          by (Some spot) q h = subst (λ (o : Option Spot). IsSomeAnd o (IsSpotOf number (scene_from widgets windows pointer width height) key)) (sym (ap (spot_at shot) (tells.back at.0 key at.1) ∙ q)) (spot-of at.0 key spot at.1 h)

      none : (key : ℕ × List ℕ) → Stands key keys → is_shown (scene_from widgets windows pointer width height) key ≡ false → (is_shown_id widgets windows (number key) ≡ true) ⊎ (is_shown_id widgets windows (number key) ≡ false) → spot_at shot (number key) ≡ None
      none key there hidden (inl shown) =
          let live = shown-live widgets windows (number key) shown in
          let same : key ≡ live.0 = tells.only (number key) key live.0 there refl live.1 in
          let at : key_at widgets.entries (number key) ≡ Some key = live.1 ∙ ap (λ (k : ℕ × List ℕ). Some k) (sym same) in
          absurd (true≢false (sym (shown-same widgets windows pointer width height (number key) key tells.valid at ∙ shown) ∙ hidden))
      none key there hidden (inr unshown) = is.unshown (number key) unshown

      absent : (id : ℕ) → list_any (nat_eq id) (map number keys) ≡ false → (is_shown_id widgets windows id ≡ true) ⊎ (is_shown_id widgets windows id ≡ false) → spot_at shot id ≡ None
      absent id other (inl shown) =
          let live = shown-live widgets windows id shown in
          let stands_there = tells.within live.0 (at-stands (scene_from widgets windows pointer width height) widgets id live.0 refl tells.valid live.1) in
          absurd (true≢false (sym (number-any number keys id live.0 stands_there (tells.back id live.0 live.1)) ∙ other))
      absent id other (inr unshown) = is.unshown id unshown

-- the number of a key of either view's widgets
number-before : (before after : Widgets) (id : ℕ) (key : ℕ × List ℕ) → IsWidgets before → key_at before.entries id ≡ Some key → number_in before after key ≡ id
number-before before after id key valid at = ap (λ (o : Option ℕ). option_map_or (λ (n : ℕ). n) o (option_map_or (λ (n : ℕ). n) (id_named (nodes after.entries) key.0 key.1) 0)) (named-at before id key valid at)

number-after : (before after : Widgets) (id : ℕ) (key : ℕ × List ℕ) → IsWidgets before → IsWidgets after → KeepsNumbers before.entries after.entries → key_at after.entries id ≡ Some key → number_in before after key ≡ id
number-after before after id key valid valid' keeps at = by (id_named (nodes before.entries) key.0 key.1) refl
  where
    by : (o : Option ℕ) → id_named (nodes before.entries) key.0 key.1 ≡ o → option_map_or (λ (n : ℕ). n) o (option_map_or (λ (n : ℕ). n) (id_named (nodes after.entries) key.0 key.1) 0) ≡ id
    by None q = ap (λ (o : Option ℕ). option_map_or (λ (n : ℕ). n) o 0) (named-at after id key valid' at)
    by (Some n) q = keeps.one_number key n id (at-named before n key valid q) at

abbrev keys_of_both : Widgets → Widgets → List (ℕ × List ℕ)
keys_of_both before after = map key_of (rows_of before) ++ map key_of (rows_of after)

-- a number of widgets of two views, of which none passes from one widget to another
record AreKept (before after : Widgets) : Type 0 where
  valid : IsWidgets before
  valid' : IsWidgets after
  numbers : KeepsNumbers before.entries after.entries

abbrev HasKey : Widgets → Widgets → ℕ × List ℕ → ℕ → Type 0
HasKey before after key id = (key_at before.entries id ≡ Some key) ⊎ (key_at after.entries id ≡ Some key)

-- a key of either has its number there
key-numbered : (before after : Widgets) (key : ℕ × List ℕ) → AreKept before after → Stands key (keys_of_both before after) → HasKey before after key (number_in before after key)
key-numbered before after key kept there = by (list_any (same_key key) (map key_of (rows_of before))) refl (sym (list_any-append (same_key key) (map key_of (rows_of before)) (map key_of (rows_of after))) ∙ there)
  where
    first : (id : ℕ) × (key_at before.entries id ≡ Some key) → HasKey before after key (number_in before after key)
    first at = inl (ap (key_at before.entries) (number-before before after at.0 key kept.valid at.1) ∙ at.1)

    second : (id : ℕ) × (key_at after.entries id ≡ Some key) → HasKey before after key (number_in before after key)
    second at = inr (ap (key_at after.entries) (number-after before after at.0 key kept.valid kept.valid' kept.numbers at.1) ∙ at.1)

    by : (b : Bool) → list_any (same_key key) (map key_of (rows_of before)) ≡ b → (b || list_any (same_key key) (map key_of (rows_of after))) ≡ true → HasKey before after key (number_in before after key)
    by true q h = first (stands-at before key kept.valid q)
    by false q h = second (stands-at after key kept.valid' h)

same-key : (a b : ℕ × List ℕ) (o : Option (ℕ × List ℕ)) → o ≡ Some a → o ≡ Some b → a ≡ b
same-key a b o p q = let e : Some a ≡ Some b = sym p ∙ q in cc

tells-before : (before after : Widgets) → AreKept before after → TellsKeys (number_in before after) (keys_of_both before after) before
tells-before before after kept = record {
  valid = kept.valid;
  within = λ key there. joined_left (map key_of (rows_of before)) (map key_of (rows_of after)) key there;
  back = λ id key at. number-before before after id key kept.valid at;
  only = λ id key key' there is at. only id key key' at (subst (λ (n : ℕ). HasKey before after key n) is (key-numbered before after key kept there));
}
  where
    only : (id : ℕ) (key key' : ℕ × List ℕ) → key_at before.entries id ≡ Some key' → HasKey before after key id → key ≡ key'
    only id key key' at (inl here) = same-key key key' (key_at before.entries id) here at
    only id key key' at (inr here) = sym (kept.numbers.one_key id key' key at here)

tells-after : (before after : Widgets) → AreKept before after → TellsKeys (number_in before after) (keys_of_both before after) after
tells-after before after kept = record {
  valid = kept.valid';
  within = λ key there. joined_right (map key_of (rows_of before)) (map key_of (rows_of after)) key there;
  back = λ id key at. number-after before after id key kept.valid kept.valid' kept.numbers at;
  only = λ id key key' there is at. only id key key' at (subst (λ (n : ℕ). HasKey before after key n) is (key-numbered before after key kept there));
}
  where
    only : (id : ℕ) (key key' : ℕ × List ℕ) → key_at after.entries id ≡ Some key' → HasKey before after key id → key ≡ key'
    only id key key' at (inl here) = kept.numbers.one_key id key key' here at
    only id key key' at (inr here) = same-key key key' (key_at after.entries id) here at

own-numbers : (before after : Widgets) → AreKept before after → IsNumbering (number_in before after) (keys_of_both before after)
own-numbers before after kept a b there there' same = by (key-numbered before after a kept there) (subst (λ (n : ℕ). HasKey before after b n) (sym same) (key-numbered before after b kept there'))
  where
    by : HasKey before after a (number_in before after a) → HasKey before after b (number_in before after a) → a ≡ b
    by (inl here) (inl also) = same-key a b (key_at before.entries (number_in before after a)) here also
    by (inl here) (inr also) = kept.numbers.one_key (number_in before after a) a b here also
    by (inr here) (inl also) = sym (kept.numbers.one_key (number_in before after a) b a also here)
    by (inr here) (inr also) = same-key a b (key_at after.entries (number_in before after a)) here also

-- a number of either is below that of all numbers
number-within : (before after : Widgets) (key : ℕ × List ℕ) (id : ℕ) → AreKept before after → HasKey before after key id → id < shots.most_numbers
number-within before after key id kept (inl here) = number-low before id kept.valid (key-live before id key here)
number-within before after key id kept (inr here) = number-low after id kept.valid' (key-live after id key here)

-- the looks that differ, by their keys
looks-of : (before after : Sight) (width height : ℕ) (looks_now : List ℕ) → AreKept before.widgets after.widgets → ((id : ℕ) → list_any (nat_eq id) looks_now ≡ has_other_look before after width height id)
    → AreLooksOf (number_in before.widgets after.widgets) (scene_in before width height) (scene_in after width height) looks_now
unfolding has_other_look
looks-of before after width height looks_now kept differ key shown shown' =
    let at = stands-at before.widgets key kept.valid (and_parts (list_any (same_key key) (map key_of (rows_of before.widgets))) (list_any (same_key (root_key (rows_of before.widgets) key)) (keys_of before.widgets.entries before.windows)) shown).0 in
    let at' = stands-at after.widgets key kept.valid' (and_parts (list_any (same_key key) (map key_of (rows_of after.widgets))) (list_any (same_key (root_key (rows_of after.widgets) key)) (keys_of after.widgets.entries after.windows)) shown').0 in
    let id = number_in before.widgets after.widgets key in
    let here : key_at before.widgets.entries id ≡ Some key = ap (key_at before.widgets.entries) (number-before before.widgets after.widgets at.0 key kept.valid at.1) ∙ at.1 in
    let here' : key_at after.widgets.entries id ≡ Some key = ap (key_at after.widgets.entries) (number-after before.widgets after.widgets at'.0 key kept.valid kept.valid' kept.numbers at'.1) ∙ at'.1 in
    let is : is_shown_id before.widgets before.windows id ≡ true = sym (shown-same before.widgets before.windows before.pointer width height id key kept.valid here) ∙ shown in
    let is' : is_shown_id after.widgets after.windows id ≡ true = sym (shown-same after.widgets after.windows after.pointer width height id key kept.valid' here') ∙ shown' in
    let look : look_by before width height id ≡ look_at (scene_in before width height) key = ap (λ (o : Option (ℕ × List ℕ)). option_map_or (look_at (scene_in before width height)) o drawn.no_film) here in
    let look' : look_by after width height id ≡ look_at (scene_in after width height) key = ap (λ (o : Option (ℕ × List ℕ)). option_map_or (look_at (scene_in after width height)) o drawn.no_film) here' in
    differ id ∙ (λ i. is i && (is' i && not (same_look (look i) (look' i))))

-- two views under one numbering
views-numbered : (before after : Sight) (width height : ℕ) (shot shot' : Seen) (looks_now : List ℕ) → AreSeen before after width height shot shot' looks_now → AreKept before.widgets after.widgets
    → AreNumbered (number_in before.widgets after.widgets) (scene_in before width height) (scene_in after width height) shot shot' looks_now
views-numbered before after width height shot shot' looks_now seen kept = record {
  sound_before = sound-view before.widgets before.windows before.pointer width height kept.valid seen.sight_before.windows.each;
  sound_after = sound-view after.widgets after.windows after.pointer width height kept.valid' seen.sight_after.windows.each;
  own = own-numbers before.widgets after.widgets kept;
  shot_before = shot-of (number_in before.widgets after.widgets) (keys_of_both before.widgets after.widgets) before.widgets before.windows before.pointer width height shot (tells-before before.widgets after.widgets kept) seen.shot_before seen.sight_before.windows.each;
  shot_after = shot-of (number_in before.widgets after.widgets) (keys_of_both before.widgets after.widgets) after.widgets after.windows after.pointer width height shot' (tells-after before.widgets after.widgets kept) seen.shot_after seen.sight_after.windows.each;
  looks_differ = looks-of before after width height looks_now kept seen.looks_differ;
}

-- a test that passes at a number of the list passes at one of the list
any-of : (test : ℕ → Bool) (id : ℕ) (ids : List ℕ) → list_any (nat_eq id) ids ≡ true → test id ≡ true → list_any test ids ≡ true
any-of test id [] there passes = absurd (true≢false (sym there))
any-of test id (n ∷ ids) there passes = by (nat_eq id n) refl there (λ later. any-of test id ids later passes)
  where
    by : (b : Bool) → nat_eq id n ≡ b → (b || list_any (nat_eq id) ids) ≡ true → (list_any (nat_eq id) ids ≡ true → list_any test ids ≡ true) → (test n || list_any test ids) ≡ true
    by true same h rest = or_left _ _ (ap test (sym (eqb-true id n same)) ∙ passes)
    by false other h rest = or_right _ _ (rest h)

in-range : (test : ℕ → Bool) (id most : ℕ) → id < most → test id ≡ true → list_any test (range_with_len 0 most) ≡ true
in-range test id most less passes =
    any_at test (range_with_len 0 most) id id (slice_get-get_or (range_with_len 0 most) id 0 (subst (λ (n : ℕ). id < n) (sym (length-range_with_len 0 most)) less) ∙ ap (λ (n : ℕ). Some n) (get_or-range_with_len 0 most id 0 less ∙ zero-add id)) passes

-- all numbers tell what those of the widgets tell
all-numbers : (number : ℕ × List ℕ → ℕ) (keys : List (ℕ × List ℕ)) (test : ℕ → Bool) (most : ℕ) → ((key : ℕ × List ℕ) → Stands key keys → number key < most) → ((id : ℕ) → list_any (nat_eq id) (map number keys) ≡ false → test id ≡ false)
    → list_any test (map number keys) ≡ list_any test (range_with_len 0 most)
all-numbers number keys test most within nothing = both_ways (list_any test (map number keys)) (list_any test (range_with_len 0 most)) forth back
  where
    key-at : (ks : List (ℕ × List ℕ)) (i n : ℕ) → slice_get (map number ks) i ≡ Some n → (key : ℕ × List ℕ) × (slice_get ks i ≡ Some key) × (number key ≡ n)
    key-at [] i n there = absurd (cc)
    key-at (k ∷ ks) zero n there = (k, refl, let e : number k ≡ n = cc in e)
    key-at (k ∷ ks) (suc i) n there = key-at ks i n there

    forth : list_any test (map number keys) ≡ true → list_any test (range_with_len 0 most) ≡ true
    forth any =
        let place = any_place test (map number keys) any in
        let key = key-at keys place.0 place.1 place.2 in
        let low : number key.0 < most = within key.0 (any_at (same_key key.0) keys place.0 key.0 key.1 (same_key-own key.0)) in
        in-range test place.1 most (subst (λ (n : ℕ). n < most) key.2 low) place.3

    back : list_any test (range_with_len 0 most) ≡ true → list_any test (map number keys) ≡ true
    back any =
        let place = any_place test (range_with_len 0 most) any in
        by place.1 place.3 (cases_Bool (list_any (nat_eq place.1) (map number keys)))
      where
        by : (id : ℕ) → test id ≡ true → (list_any (nat_eq id) (map number keys) ≡ true) ⊎ (list_any (nat_eq id) (map number keys) ≡ false) → list_any test (map number keys) ≡ true
        by id passes (inl there) = any-of test id (map number keys) there passes
        by id passes (inr absent) = absurd (true≢false (sym passes ∙ nothing id absent))

pub reach_of_views : ReachOfViews
reach_of_views before after width height shot shot' looks_now seen x y =
    let kept : AreKept before.widgets after.widgets = record { valid = seen.sight_before.valid; valid' = seen.sight_after.valid; numbers = seen.numbers } in
    let number : ℕ × List ℕ → ℕ = number_in before.widgets after.widgets in
    let keys : List (ℕ × List ℕ) = keys_of_both before.widgets after.widgets in
    let numbered = views-numbered before after width height shot shot' looks_now seen kept in
    reach_is_their_union number (scene_in before width height) (scene_in after width height) shot shot' looks_now numbered x y
    ∙ all-numbers number keys (in_areas shot shot' looks_now x y) shots.most_numbers
    (λ key there. number-within before.widgets after.widgets key (number key) kept (key-numbered before.widgets after.widgets key kept there))
    (λ id other. ap (list_any (λ (area : Rect). in_rect area x y)) (nothing_of_other_numbers number (scene_in before width height) (scene_in after width height) shot shot' looks_now numbered id other))

-- Outside the reach no colour differs: no window that shows the pixel is shifted, so the first that shows it is the
-- same, and no widget of it that shows the pixel is altered, so the way down is the same.
use Rattle.std.proofs.Common.{◌≡◌, ℕ, ℤ, Bool, true, false, ◌&&◌, ◌||◌, not, List, ◌++◌, Option, Some, None, refl, sym, ap, ◌∙◌, ◌⊎◌, inl, inr}
use Rattle.std.specs.List.{list_any}
use Rattle.std.specs.Option.{option_map, option_map_or}
use Rattle.std.proofs.lemmas.Bool.{true≢false, and_parts, and_from, or_parts, or_left, or_right, cond-true, cond-false, false_from_ne_true}
use Rattle.geom_core.specs.Rect.{in_rect}
use Rattle.geom_core.specs.Count.{screen_of}
use Rattle.look_core.specs.Same.{same_look}
use Rattle.look_core.proofs.SameLemmas.{same_are_equal}
use Rattle.widget_model.specs.Keys.{same_key}
use Rattle.widget_model.specs.Planted.{IsPlanted}
use Rattle.widget_model.specs.Trees.{most_levels}
use Rattle.scene_model.specs.Scene.{Scene}
use Rattle.scene_model.specs.Showing.{place_of, parent_in, on_screen, shows_at, window_at, lowest_in, top_of, is_open_in, is_under}
use Rattle.scene_model.specs.Colours.{look_at, colour_in, colour_at}
use Rattle.machine_model.specs.Damage.{same_place, same_parent, is_over, is_put_higher, is_shifted, is_altered, shows_open, shows_under, keys_in, in_window, in_widget, in_reach_of, in_reach}
use Rattle.machine_model.specs.DamageLaws.{IsSound, SameOutsideReach}
use Rattle.machine_model.proofs.DamageKeys.{same_key-own, same_place-is, same_parent-is, none_of, joined_left, joined_right}
use Rattle.machine_model.proofs.DamageLevels.{root_key-top}
use Rattle.machine_model.proofs.DamageOrder.{Passes, found_passes, same_first, over_stands}
use Rattle.machine_model.proofs.DamageScenes.{IsClimbed-sound, shows-stands, window_alone}
use Rattle.machine_model.proofs.DamageWay.{IsClimbed, IsKept, IsSeen, Keeps, seen_after, same_lowest, lowest_seen}

-- whether the window is open in one of the scenes and shows the pixel in it
IsShown : Scene → Scene → ℕ × List ℕ → ℤ → ℤ → Type 0
IsShown before after window x y = ((is_open_in before window ≡ true) × (shows_at before window x y ≡ true)) ⊎ ((is_open_in after window ≡ true) × (shows_at after window x y ≡ true))

-- such a window is not shifted, where the pixel is outside the reach
pub record IsSteady (before after : Scene) (window : ℕ × List ℕ) : Type 0 where
  pub open_before : is_open_in before window ≡ true
  pub open_after : is_open_in after window ≡ true
  place : place_of before window ≡ place_of after window
  unmoved : is_put_higher before after window ≡ false

not-false : (b : Bool) → not b ≡ false → b ≡ true
not-false true h = refl
not-false false h = absurd (true≢false h)

pub IsSteady-unshifted : (before after : Scene) (window : ℕ × List ℕ) → is_shifted before after window ≡ false → IsSteady before after window
unfolding is_shifted
IsSteady-unshifted before after window unshifted =
    let parts = or_parts (not (is_open_in before window && is_open_in after window)) _ unshifted in
    let opened = and_parts (is_open_in before window) (is_open_in after window) (not-false _ parts.0) in
    let rest = or_parts (not (same_place (place_of before window) (place_of after window))) (is_put_higher before after window) parts.1 in
    record {
      open_before = opened.0;
      open_after = opened.1;
      place = same_place-is _ _ (not-false _ rest.0);
      unmoved = rest.1;
    }

-- the reach doesn't hold the pixel, so neither does what it has of each window
unreached_of : (before after : Scene) (x y : ℤ) (window : ℕ × List ℕ) → in_reach before after x y ≡ false → (is_open_in before window ≡ true) ⊎ (is_open_in after window ≡ true) → in_reach_of before after x y window ≡ false
unfolding in_reach
unreached_of before after x y window unreached (inl there) =
    none_of (in_reach_of before after x y) (before.windows ++ after.windows) window unreached (joined_left before.windows after.windows window there)
unreached_of before after x y window unreached (inr there) =
    none_of (in_reach_of before after x y) (before.windows ++ after.windows) window unreached (joined_right before.windows after.windows window there)

-- the two parts of what the reach has of a window
record IsOutside (before after : Scene) (x y : ℤ) (window : ℕ × List ℕ) : Type 0 where
  shifted : is_shifted before after window ≡ true → in_window before after window x y ≡ false
  altered : is_shifted before after window ≡ false → list_any (in_widget before after window x y) (keys_in before ++ keys_in after) ≡ false

IsOutside-unreached : (before after : Scene) (x y : ℤ) (window : ℕ × List ℕ) → in_reach_of before after x y window ≡ false → IsOutside before after x y window
unfolding in_reach_of
IsOutside-unreached before after x y window h =
    record {
      shifted = λ is. sym (cond-true (is_shifted before after window) _ _ is) ∙ h;
      altered = λ is. sym (cond-false (is_shifted before after window) _ _ is) ∙ h;
    }

unshifted : (before after : Scene) (x y : ℤ) (window : ℕ × List ℕ) → in_reach before after x y ≡ false → IsShown before after window x y → is_shifted before after window ≡ false
unfolding IsShown
unshifted before after x y window unreached shown = false_from_ne_true (is_shifted before after window) (λ is. reached shown (outside.shifted is))
  where
    opened : IsShown before after window x y → (is_open_in before window ≡ true) ⊎ (is_open_in after window ≡ true)
    opened (inl h) = inl h.0
    opened (inr h) = inr h.0

    outside : IsOutside before after x y window
    outside = IsOutside-unreached before after x y window (unreached_of before after x y window unreached (opened shown))

    reached : IsShown before after window x y → in_window before after window x y ≡ false → ⊥
    reached (inl h) none = true≢false (sym (and_from _ _ h.0 h.1) ∙ (or_parts (shows_open before window x y) (shows_open after window x y) none).0)
    reached (inr h) none = true≢false (sym (and_from _ _ h.0 h.1) ∙ (or_parts (shows_open before window x y) (shows_open after window x y) none).1)

is_steady : (before after : Scene) (x y : ℤ) (window : ℕ × List ℕ) → in_reach before after x y ≡ false → IsShown before after window x y → IsSteady before after window
is_steady before after x y window unreached shown = IsSteady-unshifted before after window (unshifted before after x y window unreached shown)

-- what is not altered is the same in both scenes, in all that the way down reads
record IsUnaltered (before after : Scene) (window key : ℕ × List ℕ) : Type 0 where
  under_before : is_under before window key ≡ true
  under_after : is_under after window key ≡ true
  parent : parent_in before key ≡ parent_in after key
  place : place_of before key ≡ place_of after key
  look : look_at before key ≡ look_at after key

IsUnaltered-from : (before after : Scene) (window key : ℕ × List ℕ) → is_altered before after window key ≡ false → IsUnaltered before after window key
unfolding is_altered
IsUnaltered-from before after window key h =
    let parts = or_parts (not (is_under before window key && is_under after window key)) _ h in
    let under = and_parts (is_under before window key) (is_under after window key) (not-false _ parts.0) in
    let rest = or_parts (not (same_parent (parent_in before key) (parent_in after key))) _ parts.1 in
    let last = or_parts (not (same_place (place_of before key) (place_of after key))) (not (same_look (look_at before key) (look_at after key))) rest.1 in
    record {
      under_before = under.0;
      under_after = under.1;
      parent = same_parent-is _ _ (not-false _ rest.0);
      place = same_place-is _ _ (not-false _ last.0);
      look = (same_are_equal (look_at before key) (look_at after key)).0 (not-false _ last.1);
    }

-- outside the reach a widget of a steady window that is seen, before or after, is not altered
is_unaltered : (before after : Scene) (x y : ℤ) (window key : ℕ × List ℕ) → IsPlanted before.rows → IsPlanted after.rows → in_reach before after x y ≡ false → IsShown before after window x y → IsSeen before window key x y ⊎ IsSeen after window key x y → IsUnaltered before after window key
unfolding IsShown is_shifted
is_unaltered before after x y window key planted planted' unreached shown seen = IsUnaltered-from before after window key (by seen)
  where
    opened : IsShown before after window x y → (is_open_in before window ≡ true) ⊎ (is_open_in after window ≡ true)
    opened (inl h) = inl h.0
    opened (inr h) = inr h.0

    outside : IsOutside before after x y window
    outside = IsOutside-unreached before after x y window (unreached_of before after x y window unreached (opened shown))

    none : list_any (in_widget before after window x y) (keys_in before ++ keys_in after) ≡ false
    none = outside.altered (unshifted before after x y window unreached shown)

    untouched : (a b c : Bool) → (a && (b || c)) ≡ false → (b ≡ true) ⊎ (c ≡ true) → a ≡ false
    untouched false b c h is = refl
    untouched true b c h (inl is) = absurd (true≢false (sym (or_left b c is) ∙ h))
    untouched true b c h (inr is) = absurd (true≢false (sym (or_right b c is) ∙ h))

    by : IsSeen before window key x y ⊎ IsSeen after window key x y → is_altered before after window key ≡ false
    by (inl was) =
        untouched _ (shows_under before window key x y) (shows_under after window key x y)
        (none_of (in_widget before after window x y) (keys_in before ++ keys_in after) key none (joined_left (keys_in before) (keys_in after) key (shows-stands before key x y planted was.shows)))
        (inl (and_from _ _ was.under was.shows))
    by (inr is) =
        untouched _ (shows_under before window key x y) (shows_under after window key x y)
        (none_of (in_widget before after window x y) (keys_in before ++ keys_in after) key none (joined_right (keys_in before) (keys_in after) key (shows-stands after key x y planted' is.shows)))
        (inr (and_from _ _ is.under is.shows))

-- two scenes of one size and a pixel outside the reach between them
record IsUnreached (before after : Scene) (x y : ℤ) : Type 0 where
  sound : IsSound before
  sound' : IsSound after
  width : before.width ≡ after.width
  height : before.height ≡ after.height
  unreached : in_reach before after x y ≡ false

same_screen : (before after : Scene) (x y : ℤ) → IsUnreached before after x y → on_screen before x y ≡ on_screen after x y
same_screen before after x y u = λ i. in_rect (screen_of (u.width i) (u.height i)) x y

keeps_on : (before after : Scene) (x y : ℤ) (window : ℕ × List ℕ) → IsUnreached before after x y → IsShown before after window x y → Keeps before after window x y
keeps_on before after x y window u shown =
    record {
      screen = same_screen before after x y u;
      each = λ key seen.
          let is = is_unaltered before after x y window key u.sound.planted u.sound'.planted u.unreached shown (inl seen) in
          record { under = is.under_after; parent = is.parent; place = is.place; look = is.look };
    }

keeps_back : (before after : Scene) (x y : ℤ) (window : ℕ × List ℕ) → IsUnreached before after x y → IsShown before after window x y → Keeps after before window x y
keeps_back before after x y window u shown =
    record {
      screen = sym (same_screen before after x y u);
      each = λ key seen.
          let is = is_unaltered before after x y window key u.sound.planted u.sound'.planted u.unreached shown (inr seen) in
          record { under = is.under_before; parent = sym is.parent; place = sym is.place; look = sym is.look };
    }

-- an open window that shows the pixel is seen in itself
window_seen : (scene : Scene) (window : ℕ × List ℕ) (x y : ℤ) → IsSound scene → is_open_in scene window ≡ true → shows_at scene window x y ≡ true → IsSeen scene window window x y
window_seen scene window x y sound there shows =
    record { under = ap (same_key window) (root_key-top scene window (window_alone scene window sound there)) ∙ same_key-own window; shows = shows }

-- the windows that show the pixel are the same
forth : (before after : Scene) (x y : ℤ) → IsUnreached before after x y → Passes (λ window. shows_at before window x y) before.windows (λ window. shows_at after window x y) after.windows
unfolding IsShown
forth before after x y u window there shows =
    let shown : IsShown before after window x y = inl (there, shows) in
    let steady = is_steady before after x y window u.unreached shown in
    (steady.open_after, (seen_after before after window window x y u.sound.planted u.sound'.planted (keeps_on before after x y window u shown) (window_seen before window x y u.sound there shows)).shows)

back : (before after : Scene) (x y : ℤ) → IsUnreached before after x y → Passes (λ window. shows_at after window x y) after.windows (λ window. shows_at before window x y) before.windows
unfolding IsShown
back before after x y u window there shows =
    let shown : IsShown before after window x y = inr (there, shows) in
    let steady = is_steady before after x y window u.unreached shown in
    (steady.open_before, (seen_after after before window window x y u.sound'.planted u.sound.planted (keeps_back before after x y window u shown) (window_seen after window x y u.sound' there shows)).shows)

-- and none of them is put higher
unmoved : (before after : Scene) (x y : ℤ) → IsUnreached before after x y → (other window : ℕ × List ℕ) → list_any (same_key window) after.windows ≡ true → shows_at after window x y ≡ true → is_over same_key before.windows other window ≡ true → is_over same_key after.windows window other ≡ true → ⊥
unfolding IsShown is_put_higher
unmoved before after x y u other window there shows over under =
    let steady = is_steady before after x y window u.unreached (inr (there, shows)) in
    let none = none_of (λ o. is_over same_key before.windows o window && is_over same_key after.windows window o) before.windows other steady.unmoved (over_stands before.windows other window over) in
    true≢false (sym (and_from _ _ over under) ∙ none)

same_window : (before after : Scene) (x y : ℤ) → IsUnreached before after x y → window_at before x y ≡ window_at after x y
same_window before after x y u =
    same_first (λ window. shows_at before window x y) (λ window. shows_at after window x y) before.windows after.windows (forth before after x y u) (back before after x y u) (unmoved before after x y u)

-- the colour of what is lowest in the first window
colour_through : Scene → ℤ → ℤ → Option (ℕ × List ℕ) → ℕ
colour_through scene x y window =
    option_map_or (λ key. colour_in (look_at scene key) (place_of scene key) x y) (option_map (lowest_in most_levels scene x y) window) 2

same_colour : (before after : Scene) (x y : ℤ) → IsUnreached before after x y → (window : Option (ℕ × List ℕ)) → window_at before x y ≡ window → colour_through before x y window ≡ colour_through after x y window
unfolding IsShown colour_through
same_colour before after x y u None first = refl
same_colour before after x y u (Some window) first = λ i. colour_in (look i) (place i) x y
  where
    found : (list_any (same_key window) before.windows ≡ true) × (shows_at before window x y ≡ true)
    found = found_passes (λ w. shows_at before w x y) before.windows window first

    shown : IsShown before after window x y
    shown = inl found

    keeps : Keeps before after window x y
    keeps = keeps_on before after x y window u shown

    seen : IsSeen before window window x y
    seen = window_seen before window x y u.sound found.0 found.1

    climbed : IsClimbed before x y
    climbed = IsClimbed-sound before x y u.sound

    lowest : lowest_in most_levels before x y window ≡ lowest_in most_levels after x y window
    lowest = same_lowest most_levels before after window window x y climbed (IsClimbed-sound after x y u.sound') keeps (keeps_back before after x y window u shown) seen

    kept : IsKept before after window (lowest_in most_levels before x y window)
    kept = keeps.each (lowest_in most_levels before x y window) (lowest_seen most_levels before window window x y climbed seen)

    look : look_at before (lowest_in most_levels before x y window) ≡ look_at after (lowest_in most_levels after x y window)
    look = kept.look ∙ ap (look_at after) lowest

    place : place_of before (lowest_in most_levels before x y window) ≡ place_of after (lowest_in most_levels after x y window)
    place = kept.place ∙ ap (place_of after) lowest

pub same_outside_reach : SameOutsideReach
unfolding colour_at top_of colour_through
same_outside_reach before after sound sound' width height x y unreached =
    let u : IsUnreached before after x y = record { sound = sound; sound' = sound'; width = width; height = height; unreached = unreached } in
    same_colour before after x y u (window_at before x y) refl ∙ ap (colour_through after x y) (same_window before after x y u)

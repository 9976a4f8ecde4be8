-- The way down through a window of which nothing that shows the pixel changed: it is the same in both scenes.
use Rattle.std.proofs.Common.{◌≡◌, ℕ, zero, suc, ℤ, Bool, true, false, ◌&&◌, List, Option, Some, None, refl, sym, ap, ◌∙◌}
use Rattle.std.specs.Option.{option_map_or}
use Rattle.std.proofs.lemmas.Bool.{true≢false, and_parts, and_from}
use Rattle.geom_core.specs.Rect.{in_rect}
use Rattle.geom_core.specs.declared.rectangle.Rect.{Rect}
use Rattle.widget_model.specs.Planted.{IsPlanted}
use Rattle.widget_model.specs.Trees.{ends_within, most_levels}
use Rattle.scene_model.specs.Scene.{Scene}
use Rattle.scene_model.specs.Showing.{place_of, parent_in, on_screen, shows_at, child_at, lowest_in, is_under}
use Rattle.scene_model.specs.Colours.{look_at}
use Rattle.machine_model.proofs.DamageLevels.{ends_at_most, ends-up, shown_through, shows_at-up, is_under-parent}

-- A scene in which one goes up and down: the widgets hang right in one another, and the child that is found at a pixel is the one that shows it.
pub record IsClimbed (scene : Scene) (x y : ℤ) : Type 0 where
  pub planted : IsPlanted scene.rows
  pub child : (key child : ℕ × List ℕ) → child_at scene key x y ≡ Some child → (parent_in scene child ≡ Some key) × (shows_at scene child x y ≡ true)
  pub childless : (key child : ℕ × List ℕ) → child_at scene key x y ≡ None → parent_in scene child ≡ Some key → shows_at scene child x y ≡ false
  pub apart : (key a b : ℕ × List ℕ) → parent_in scene a ≡ Some key → parent_in scene b ≡ Some key → shows_at scene a x y ≡ true → shows_at scene b x y ≡ true → a ≡ b

-- a widget that is kept: it is still under the window, with the same parent, place and look
pub record IsKept (before after : Scene) (window key : ℕ × List ℕ) : Type 0 where
  pub under : is_under after window key ≡ true
  pub parent : parent_in before key ≡ parent_in after key
  pub place : place_of before key ≡ place_of after key
  pub look : look_at before key ≡ look_at after key

-- whether the widget is under the window and shows the pixel
pub record IsSeen (scene : Scene) (window key : ℕ × List ℕ) (x y : ℤ) : Type 0 where
  pub under : is_under scene window key ≡ true
  pub shows : shows_at scene key x y ≡ true

-- each widget that is seen is kept, on a screen of the same size
pub record Keeps (before after : Scene) (window : ℕ × List ℕ) (x y : ℤ) : Type 0 where
  pub screen : on_screen before x y ≡ on_screen after x y
  pub each : (key : ℕ × List ℕ) → IsSeen before window key x y → IsKept before after window key

-- where a widget shows a pixel, the pixel is in its place, and its parent shows it
pub shows_at-parent : (scene : Scene) (key parent : ℕ × List ℕ) (x y : ℤ) → IsPlanted scene.rows → parent_in scene key ≡ Some parent → shows_at scene key x y ≡ true → (in_rect (place_of scene key) x y ≡ true) × (shows_at scene parent x y ≡ true)
shows_at-parent scene key parent x y planted hangs shows =
    and_parts (in_rect (place_of scene key) x y) (shows_at scene parent x y) (sym (shows_at-up scene key x y planted ∙ ap (shown_through scene key x y) hangs) ∙ shows)

-- so what is seen before is seen after, going up level by level
seen_in : (most : ℕ) (before after : Scene) (window key : ℕ × List ℕ) (x y : ℤ) → IsPlanted before.rows → IsPlanted after.rows → Keeps before after window x y → ends_within most before.rows key.0 key.1 ≡ true → IsSeen before window key x y → IsSeen after window key x y
seen_in zero before after window key x y planted planted' keeps low seen = absurd (true≢false (sym low))
seen_in (suc most) before after window key x y planted planted' keeps low seen =
    record {
      under = kept.under;
      shows = shows_at-up after key x y planted' ∙ (through (place_of before key) (place_of after key) kept.place (parent_in before key) (parent_in after key) kept.parent ∙ by (λ parent low seen. seen_in most before after window parent x y planted planted' keeps low seen) (parent_in before key) refl);
    }
  where
    kept : IsKept before after window key
    kept = keeps.each key seen

    inside : Rect → Option (ℕ × List ℕ) → Bool
    inside place o = in_rect place x y && option_map_or (λ parent. shows_at after parent x y) o (on_screen after x y)

    through : (place place' : Rect) → place ≡ place' → (o o' : Option (ℕ × List ℕ)) → o ≡ o' → inside place' o' ≡ inside place o
    through place place' same o o' also = λ i. inside (sym same i) (sym also i)

    by : ((parent : ℕ × List ℕ) → ends_within most before.rows parent.0 parent.1 ≡ true → IsSeen before window parent x y → IsSeen after window parent x y) → (o : Option (ℕ × List ℕ)) → parent_in before key ≡ o → inside (place_of before key) o ≡ true
    by rest None hangs =
        let was : (in_rect (place_of before key) x y && on_screen before x y) ≡ true = sym (shows_at-up before key x y planted ∙ ap (shown_through before key x y) hangs) ∙ seen.shows in
        ap (λ b. in_rect (place_of before key) x y && b) (sym keeps.screen) ∙ was
    by rest (Some parent) hangs =
        let up = shows_at-parent before key parent x y planted hangs seen.shows in
        let above = rest parent (ends-up most before key parent hangs low) (record { under = sym (is_under-parent before window key parent planted hangs) ∙ seen.under; shows = up.1 }) in
        and_from _ _ up.0 above.shows

pub seen_after : (before after : Scene) (window key : ℕ × List ℕ) (x y : ℤ) → IsPlanted before.rows → IsPlanted after.rows → Keeps before after window x y → IsSeen before window key x y → IsSeen after window key x y
seen_after before after window key x y planted planted' keeps seen = seen_in most_levels before after window key x y planted planted' keeps (ends_at_most before.rows key planted) seen

-- a child that is found is seen, where its parent is
pub child_seen : (scene : Scene) (window key child : ℕ × List ℕ) (x y : ℤ) → IsClimbed scene x y → IsSeen scene window key x y → child_at scene key x y ≡ Some child → IsSeen scene window child x y
child_seen scene window key child x y climbed seen found =
    let is = climbed.child key child found in
    record { under = is_under-parent scene window child key climbed.planted is.0 ∙ seen.under; shows = is.1 }

-- the child that is found before is found after
child_after : (before after : Scene) (window key child : ℕ × List ℕ) (x y : ℤ) → IsClimbed before x y → IsClimbed after x y → Keeps before after window x y → IsSeen before window key x y → child_at before key x y ≡ Some child → child_at after key x y ≡ Some child
child_after before after window key child x y climbed climbed' keeps seen found = by (child_at after key x y) refl
  where
    is : (parent_in before child ≡ Some key) × (shows_at before child x y ≡ true)
    is = climbed.child key child found

    child_was : IsSeen before window child x y
    child_was = child_seen before window key child x y climbed seen found

    hangs : parent_in after child ≡ Some key
    hangs = sym (keeps.each child child_was).parent ∙ is.0

    shows : shows_at after child x y ≡ true
    shows = (seen_after before after window child x y climbed.planted climbed'.planted keeps child_was).shows

    by : (o : Option (ℕ × List ℕ)) → child_at after key x y ≡ o → o ≡ Some child
    by None missing = absurd (true≢false (sym shows ∙ climbed'.childless key child missing hangs))
    by (Some other) there =
        let other_is = climbed'.child key other there in
        ap Some (climbed'.apart key other child other_is.0 hangs other_is.1 shows)

-- a widget that is seen in both scenes has the same child at the pixel in both, or none
pub same_child : (before after : Scene) (window key : ℕ × List ℕ) (x y : ℤ) → IsClimbed before x y → IsClimbed after x y → Keeps before after window x y → Keeps after before window x y → IsSeen before window key x y → child_at before key x y ≡ child_at after key x y
same_child before after window key x y climbed climbed' keeps keeps' seen = by (child_at before key x y) refl (child_at after key x y) refl
  where
    by : (o : Option (ℕ × List ℕ)) → child_at before key x y ≡ o → (o' : Option (ℕ × List ℕ)) → child_at after key x y ≡ o' → o ≡ o'
    by None found None found' = refl
    by (Some child) found o' found' = sym (child_after before after window key child x y climbed climbed' keeps seen found) ∙ found'
    by None found (Some child) found' =
        let seen' = seen_after before after window key x y climbed.planted climbed'.planted keeps seen in
        sym found ∙ child_after after before window key child x y climbed' climbed keeps' seen' found'

-- so the lowest one is the same, and it is seen
pub same_lowest : (most : ℕ) (before after : Scene) (window key : ℕ × List ℕ) (x y : ℤ) → IsClimbed before x y → IsClimbed after x y → Keeps before after window x y → Keeps after before window x y → IsSeen before window key x y → lowest_in most before x y key ≡ lowest_in most after x y key
same_lowest zero before after window key x y climbed climbed' keeps keeps' seen = refl
same_lowest (suc most) before after window key x y climbed climbed' keeps keeps' seen =
    by (λ child seen. same_lowest most before after window child x y climbed climbed' keeps keeps' seen) (child_at before key x y) refl ∙ ap (λ (o : Option (ℕ × List ℕ)). option_map_or (lowest_in most after x y) o key) (same_child before after window key x y climbed climbed' keeps keeps' seen)
  where
    by : ((child : ℕ × List ℕ) → IsSeen before window child x y → lowest_in most before x y child ≡ lowest_in most after x y child) → (o : Option (ℕ × List ℕ)) → child_at before key x y ≡ o → option_map_or (lowest_in most before x y) o key ≡ option_map_or (lowest_in most after x y) o key
    by rest None found = refl
    by rest (Some child) found = rest child (child_seen before window key child x y climbed seen found)

pub lowest_seen : (most : ℕ) (scene : Scene) (window key : ℕ × List ℕ) (x y : ℤ) → IsClimbed scene x y → IsSeen scene window key x y → IsSeen scene window (lowest_in most scene x y key) x y
lowest_seen zero scene window key x y climbed seen = seen
lowest_seen (suc most) scene window key x y climbed seen = by (λ child seen. lowest_seen most scene window child x y climbed seen) (child_at scene key x y) refl
  where
    by : ((child : ℕ × List ℕ) → IsSeen scene window child x y → IsSeen scene window (lowest_in most scene x y child) x y) → (o : Option (ℕ × List ℕ)) → child_at scene key x y ≡ o → IsSeen scene window (option_map_or (lowest_in most scene x y) o key) x y
    by rest None found = seen
    by rest (Some child) found = rest child (child_seen scene window key child x y climbed seen found)

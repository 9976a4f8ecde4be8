-- What the way down takes of a scene, from what every valid desk has.
use Rattle.std.proofs.Common.{◌≡◌, ℕ, ℤ, pos, Bool, true, false, ◌&&◌, List, Option, Some, None, refl, sym, ap, ◌∙◌, slice_get, is_some, map, [], ◌∷◌, ◌||◌}
use Rattle.std.specs.List.{find, list_any}
use Rattle.std.specs.Option.{option_map, option_map_or}
use Rattle.std.proofs.lemmas.Bool.{true≢false, and_parts, and_from, and_left, false_from_ne_true}
use Rattle.std.proofs.lemmas.Option.{same_Some}
use Rattle.kind_core.specs.declared.kinds.Kind.{Kind}
use Rattle.kind_core.specs.declared.kinds.Kind.TheVariants.{Window, Grid, Frame, Button, Label, Entry, Scale, Scrollbar, Variable, VScreen}
use Rattle.kind_core.specs.declared.shapes.Cell.{Cell}
use Rattle.geom_core.specs.Rect.{in_rect}
use Rattle.widget_model.specs.Rows.{Row}
use Rattle.widget_model.specs.Named.{has_name, is_kind_of, AreNamedApart}
use Rattle.widget_model.specs.Kinds.{is_window_kind}
use Rattle.widget_model.specs.Keys.{key_of, same_key, row_of}
use Rattle.widget_model.specs.Planted.{IsPlanted, hangs_right}
use Rattle.widget_model.specs.Trees.{parent_of, is_child, can_be_child}
use Rattle.widget_model.proofs.Planting.{row_named-parent}
use Rattle.widget_model.proofs.Hanging.{find-passes, find-element, find_none_at, all_at, row_named-own, HangsIn-from, HangsIn-child, hangs_right-at}
use Rattle.scene_model.specs.Placing.{place_in}
use Rattle.scene_model.specs.Scene.{Scene}
use Rattle.scene_model.specs.Showing.{place_of, parent_in, shows_at, child_at, is_open_in}
use Rattle.scene_model.proofs.Apart.{children_share_no_pixel}
use Rattle.scene_model.proofs.Parents.{IsChildOf-is_child, parent_of-found}
use Rattle.scene_model.proofs.LevelLaws.{IsParentKey-parent_in}
use Rattle.machine_model.specs.Damage.{keys_in}
use Rattle.machine_model.specs.DamageLaws.{IsSound}
use Rattle.machine_model.proofs.DamageKeys.{find-any, none_in_span, all_of, same_key-is}
use Rattle.machine_model.proofs.DamageLevels.{shows_at-up}
use Rattle.machine_model.proofs.DamageWay.{IsClimbed}

-- the test that finds a child at a pixel
abbrev shows_child : Scene → ℕ × List ℕ → ℤ → ℤ → Row → Bool
shows_child scene key x y row = is_child key.0 key.1 row && shows_at scene (key_of row) x y

-- the parent of a row that stands among the rows
parent_in-child : (scene : Scene) (key : ℕ × List ℕ) (i : ℕ) (row : Row) → AreNamedApart scene.rows → slice_get scene.rows i ≡ Some row → is_child key.0 key.1 row ≡ true → parent_in scene (key_of row) ≡ Some key
unfolding parent_in
parent_in-child scene key i row names there is =
    let child = IsChildOf-is_child key.0 key.1 row is in
    let named : parent_of scene.rows row.client row.name ≡ Some key.1 =
    parent_of-found scene.rows row.client row.name row (row_named-own scene.rows i row names there) ∙ ap (option_map (λ (attached : List ℕ × Cell). attached.0)) child.attached in
    ap (option_map {U = ℕ × List ℕ} (λ (name : List ℕ). (row.client, name))) named ∙ ap (λ (client : ℕ). Some (client, key.1)) child.owner

child_found : (scene : Scene) (x y : ℤ) (key child : ℕ × List ℕ) → AreNamedApart scene.rows → child_at scene key x y ≡ Some child → (parent_in scene child ≡ Some key) × (shows_at scene child x y ≡ true)
child_found scene x y key child names found = by (find (shows_child scene key x y) scene.rows) refl found
  where
    by : (o : Option Row) → find (shows_child scene key x y) scene.rows ≡ o → option_map {U = ℕ × List ℕ} key_of o ≡ Some child → (parent_in scene child ≡ Some key) × (shows_at scene child x y ≡ true)
    by None is same = absurd (cc)
    by (Some row) is same =
        let keyed : key_of row ≡ child = same_Some (key_of row) child same in
        let place = find-element (shows_child scene key x y) scene.rows row is in
        let passes = and_parts (is_child key.0 key.1 row) (shows_at scene (key_of row) x y) (find-passes (shows_child scene key x y) scene.rows row is) in
        (ap (parent_in scene) (sym keyed) ∙ parent_in-child scene key place.0 row names place.1 passes.0, ap (λ (k : ℕ × List ℕ). shows_at scene k x y) (sym keyed) ∙ passes.1)

-- where no child is found at the pixel, none shows it
child_missing : (scene : Scene) (x y : ℤ) (key child : ℕ × List ℕ) → child_at scene key x y ≡ None → parent_in scene child ≡ Some key → shows_at scene child x y ≡ false
child_missing scene x y key child missing hangs =
    let upper = IsParentKey-parent_in scene child key hangs in
    let there = HangsIn-from scene.rows child.0 child.1 upper.name upper.hung in
    let is : is_child child.0 upper.name there.row ≡ true = HangsIn-child scene.rows child.0 child.1 upper.name there in
    let keyed : key_of there.row ≡ child = λ i. (there.named.client_is i, there.named.name_is i) in
    let absent = find_none_at (shows_child scene key x y) scene.rows there.i there.row (none (find (shows_child scene key x y) scene.rows) missing) there.there in
    false_from_ne_true (shows_at scene child x y)
    (λ shows. true≢false (sym (and_from _ _ (ap (λ (k : ℕ × List ℕ). is_child k.0 k.1 there.row) (sym upper.keyed) ∙ is) (ap (λ (k : ℕ × List ℕ). shows_at scene k x y) keyed ∙ shows)) ∙ absent))
  where
    none : (o : Option Row) → option_map {U = ℕ × List ℕ} key_of o ≡ None → o ≡ None
    none None h = refl
    none (Some row) h = absurd (cc)

-- two children that show one pixel are one
child_apart : (scene : Scene) (x y : ℤ) (key a b : ℕ × List ℕ) → IsPlanted scene.rows → parent_in scene a ≡ Some key → parent_in scene b ≡ Some key → shows_at scene a x y ≡ true → shows_at scene b x y ≡ true → a ≡ b
child_apart scene x y key a b planted hangs hangs' shows shows' = by (same_key a b) refl
  where
    by : (c : Bool) → same_key a b ≡ c → a ≡ b
    by true same = same_key-is a b same
    by false differ = absurd (true≢false (sym (and_from _ _ shows shows') ∙ children_share_no_pixel scene a b key x y planted hangs hangs' differ))

pub IsClimbed-sound : (scene : Scene) (x y : ℤ) → IsSound scene → IsClimbed scene x y
IsClimbed-sound scene x y sound =
    record {
      planted = sound.planted;
      child = λ key child found. child_found scene x y key child sound.names found;
      childless = λ key child missing hangs. child_missing scene x y key child missing hangs;
      apart = λ key a b hangs hangs' shows shows'. child_apart scene x y key a b sound.planted hangs hangs' shows shows';
    }

-- a widget's key stands among the keys
stands_by_row : (rows : List Row) (key : ℕ × List ℕ) → list_any (same_key key) (map key_of rows) ≡ list_any (has_name key.0 key.1) rows
stands_by_row [] key = refl
stands_by_row (row ∷ rows) key = ap (λ b. has_name key.0 key.1 row || b) (stands_by_row rows key)

pub row_stands : (scene : Scene) (key : ℕ × List ℕ) (row : Row) → row_of scene.rows key ≡ Some row → list_any (same_key key) (keys_in scene) ≡ true
row_stands scene key row found = stands_by_row scene.rows key ∙ find-any (has_name key.0 key.1) scene.rows row found

-- what has no row has no pixel
no_row : (scene : Scene) (key : ℕ × List ℕ) (x y : ℤ) → row_of scene.rows key ≡ None → in_rect (place_of scene key) x y ≡ false
unfolding place_of
no_row scene key x y absent =
    ap (λ (o : Option Row). in_rect (option_map_or (place_in scene.rows) o (record { x = pos 0; y = pos 0; w = 0; h = 0 })) x y) absent ∙ and_left _ _ (none_in_span x)

-- a widget that shows a pixel is one of the scene's
pub shows-stands : (scene : Scene) (key : ℕ × List ℕ) (x y : ℤ) → IsPlanted scene.rows → shows_at scene key x y ≡ true → list_any (same_key key) (keys_in scene) ≡ true
shows-stands scene key x y planted shows = by (row_of scene.rows key) refl
  where
    by : (o : Option Row) → row_of scene.rows key ≡ o → list_any (same_key key) (keys_in scene) ≡ true
    by None is = absurd (true≢false (sym shows ∙ (shows_at-up scene key x y planted ∙ and_left _ _ (no_row scene key x y is))))
    by (Some row) is = row_stands scene key row is

-- no Window can be a child
apart_kinds : (kind : Kind) → is_window_kind kind ≡ true → can_be_child kind ≡ true → ⊥
apart_kinds Window window child = true≢false (sym child)
apart_kinds Grid window child = true≢false (sym window)
apart_kinds Frame window child = true≢false (sym window)
apart_kinds Button window child = true≢false (sym window)
apart_kinds Label window child = true≢false (sym window)
apart_kinds Entry window child = true≢false (sym window)
apart_kinds Scale window child = true≢false (sym window)
apart_kinds Scrollbar window child = true≢false (sym window)
apart_kinds Variable window child = true≢false (sym window)
apart_kinds VScreen window child = true≢false (sym window)

-- an open window has no parent
pub window_alone : (scene : Scene) (window : ℕ × List ℕ) → IsSound scene → is_open_in scene window ≡ true → parent_in scene window ≡ None
window_alone scene window sound there = by (parent_in scene window) refl
  where
    is : is_kind_of is_window_kind (row_of scene.rows window) ≡ true
    is = all_of (λ w. is_kind_of is_window_kind (row_of scene.rows w)) scene.windows window sound.windows there

    by : (o : Option (ℕ × List ℕ)) → parent_in scene window ≡ o → o ≡ None
    by None hangs = refl
    by (Some parent) hangs =
        let upper = IsParentKey-parent_in scene window parent hangs in
        let lower = HangsIn-from scene.rows window.0 window.1 upper.name upper.hung in
        let right = hangs_right-at scene.rows lower.row upper.name lower.cell (all_at (hangs_right scene.rows) scene.rows lower.i lower.row sound.planted.hang lower.there) lower.attached in
        absurd (apart_kinds lower.row.kind (sym (ap (is_kind_of is_window_kind) lower.found) ∙ is) right.can_be_child)

-- an open window is one of the scene's widgets
pub window_stands : (scene : Scene) (window : ℕ × List ℕ) → IsSound scene → is_open_in scene window ≡ true → list_any (same_key window) (keys_in scene) ≡ true
window_stands scene window sound there = by (row_of scene.rows window) refl
  where
    is : is_kind_of is_window_kind (row_of scene.rows window) ≡ true
    is = all_of (λ w. is_kind_of is_window_kind (row_of scene.rows w)) scene.windows window sound.windows there

    by : (o : Option Row) → row_of scene.rows window ≡ o → list_any (same_key window) (keys_in scene) ≡ true
    by None found = absurd (true≢false (sym is ∙ ap (is_kind_of is_window_kind) found))
    by (Some row) found = row_stands scene window row found

-- a parent is one of the scene's widgets
pub parent_stands : (scene : Scene) (key parent : ℕ × List ℕ) → IsPlanted scene.rows → parent_in scene key ≡ Some parent → list_any (same_key parent) (keys_in scene) ≡ true
parent_stands scene key parent planted hangs =
    let upper = IsParentKey-parent_in scene key parent hangs in
    by (row_of scene.rows parent) refl (ap (λ (k : ℕ × List ℕ). is_some (row_of scene.rows k)) (sym upper.keyed) ∙ row_named-parent scene.rows key.0 key.1 upper.name planted upper.hung)
  where
    by : (o : Option Row) → row_of scene.rows parent ≡ o → is_some (row_of scene.rows parent) ≡ true → list_any (same_key parent) (keys_in scene) ≡ true
    by None found is = absurd (true≢false (sym is ∙ ap is_some found))
    by (Some row) found is = row_stands scene parent row found

-- What a widget shows and its root, from its parent's or, at the top of a tree, from none: going up one level.
use Rattle.std.proofs.Common.{◌≡◌, ℕ, suc, ℤ, Bool, true, ◌&&◌, List, Option, Some, None, refl, sym, ap, ◌∙◌}
use Rattle.std.specs.Option.{option_map, option_map_or, option_and_then}
use Rattle.geom_core.specs.Rect.{in_rect}
use Rattle.kind_core.specs.declared.shapes.Cell.{Cell}
use Rattle.widget_model.specs.Rows.{Row}
use Rattle.widget_model.specs.Named.{row_named}
use Rattle.widget_model.specs.Planted.{IsPlanted}
use Rattle.widget_model.specs.Trees.{parent_of, root_in, ends_within, most_levels}
use Rattle.widget_model.specs.Keys.{same_key, root_key}
use Rattle.widget_model.proofs.Levels.{some_levels, ends_within-alone}
use Rattle.widget_model.proofs.Hanging.{IsNamed-row_named}
use Rattle.scene_model.specs.Scene.{Scene}
use Rattle.scene_model.specs.Showing.{place_of, parent_in, on_screen, shows_in, shows_at, is_under}
use Rattle.scene_model.proofs.LevelLaws.{IsParentKey-parent_in, ends-found, children_show_within_parents, children_have_their_parents_root}

-- what is so for any number of levels from 1 on is so for the most
at_most_levels : (P : ℕ → Type 0) → ((most : ℕ) → P (suc most)) → P most_levels
unfolding most_levels
at_most_levels P each = each 11

-- the widget's parent is none where its name has none
parent_of-none : (scene : Scene) (key : ℕ × List ℕ) → parent_in scene key ≡ None → parent_of scene.rows key.0 key.1 ≡ None
unfolding parent_in
parent_of-none scene key is = by (parent_of scene.rows key.0 key.1) is
  where
    by : (o : Option (List ℕ)) → option_map {U = ℕ × List ℕ} (λ (name : List ℕ). (key.0, name)) o ≡ None → o ≡ None
    by None is = refl
    by (Some name) is = absurd (cc)

-- going up from any key ends within the levels of a tree
pub ends_at_most : (rows : List Row) (key : ℕ × List ℕ) → IsPlanted rows → ends_within most_levels rows key.0 key.1 ≡ true
ends_at_most rows key planted = by (row_named rows key.0 key.1) refl
  where
    by : (o : Option Row) → row_named rows key.0 key.1 ≡ o → ends_within most_levels rows key.0 key.1 ≡ true
    by None found = ends_within-alone most_levels rows key.0 key.1 some_levels (ap (λ (o : Option Row). option_and_then (λ (row : Row). option_map (λ (attached : List ℕ × Cell). attached.0) row.attached) o) found)
    by (Some row) found =
        let is = IsNamed-row_named rows key.0 key.1 row found in
        let own : row_named rows row.client row.name ≡ Some row = ap (λ (client : ℕ). row_named rows client row.name) is.client_is ∙ (ap (row_named rows key.0) is.name_is ∙ found) in
        ap (λ (client : ℕ). ends_within most_levels rows client key.1) (sym is.client_is) ∙ (ap (ends_within most_levels rows row.client) (sym is.name_is) ∙ ends-found rows row planted own)

-- from the parent one level fewer is left to go up
pub ends-up : (most : ℕ) (scene : Scene) (key parent : ℕ × List ℕ) → parent_in scene key ≡ Some parent → ends_within (suc most) scene.rows key.0 key.1 ≡ true → ends_within most scene.rows parent.0 parent.1 ≡ true
ends-up most scene key parent hangs ends =
    let upper = IsParentKey-parent_in scene key parent hangs in
    let named : ends_within most scene.rows key.0 upper.name ≡ true = sym (ap (λ (o : Option (List ℕ)). option_map_or (ends_within most scene.rows key.0) o true) upper.hung) ∙ ends in
    sym (ap (λ (above : ℕ × List ℕ). ends_within most scene.rows above.0 above.1) upper.keyed) ∙ named

-- what the widget shows where its parent is `parent`
abbrev pub shown_through : Scene → ℕ × List ℕ → ℤ → ℤ → Option (ℕ × List ℕ) → Bool
shown_through scene key x y parent = in_rect (place_of scene key) x y && option_map_or (λ above. shows_at scene above x y) parent (on_screen scene x y)

shows_at-top : (scene : Scene) (key : ℕ × List ℕ) (x y : ℤ) → parent_in scene key ≡ None → shows_at scene key x y ≡ shown_through scene key x y None
unfolding shows_at
shows_at-top scene key x y is = at_most_levels (λ most. shows_in most scene key x y ≡ shown_through scene key x y None) through
  where
    through : (most : ℕ) → shows_in (suc most) scene key x y ≡ shown_through scene key x y None
    through most = ap (λ (o : Option (ℕ × List ℕ)). in_rect (place_of scene key) x y && option_map_or (λ above. shows_in most scene above x y) o (on_screen scene x y)) is

-- A widget shows the pixels of its place that its parent shows, and one without a parent those on the screen.
pub shows_at-up : (scene : Scene) (key : ℕ × List ℕ) (x y : ℤ) → IsPlanted scene.rows → shows_at scene key x y ≡ shown_through scene key x y (parent_in scene key)
shows_at-up scene key x y planted = by (parent_in scene key) refl
  where
    by : (o : Option (ℕ × List ℕ)) → parent_in scene key ≡ o → shows_at scene key x y ≡ shown_through scene key x y o
    by None is = shows_at-top scene key x y is
    by (Some parent) is = children_show_within_parents scene key parent x y planted is

-- a child is under the window that its parent is under
pub is_under-parent : (scene : Scene) (window key parent : ℕ × List ℕ) → IsPlanted scene.rows → parent_in scene key ≡ Some parent → is_under scene window key ≡ is_under scene window parent
unfolding parent_in
is_under-parent scene window key parent planted is = ap (same_key window) (children_have_their_parents_root scene.rows key parent planted is)

-- a widget without a parent is its own root
pub root_key-top : (scene : Scene) (key : ℕ × List ℕ) → parent_in scene key ≡ None → root_key scene.rows key ≡ key
root_key-top scene key is =
    ap (λ (name : List ℕ). (key.0, name)) (at_most_levels (λ most. root_in most scene.rows key.0 key.1 ≡ key.1) (λ most. ap (λ (o : Option (List ℕ)). option_map_or (root_in most scene.rows key.0) o key.1) (parent_of-none scene key is)))

-- More levels change nothing for what goes down, where the widgets below are no deeper than a tree can be. So a least
-- length comes from those of the children.
use Rattle.std.proofs.Common.{◌≡◌, ◌≤◌, ◌+◌, ℕ, zero, suc, ℤ, true, false, cond, ◌&&◌, List, Option, Some, None, refl, sym, ap, ◌∙◌, arith, slice_get}
use Rattle.std.proofs.lemmas.Bool.{true≢false, and_parts}
use Rattle.std.specs.List.{find}
use Rattle.std.specs.Option.{option_map, option_map_or}
use Rattle.widget_model.specs.Rows.{Row}
use Rattle.widget_model.specs.Named.{AreNamedApart}
use Rattle.widget_model.specs.Keys.{key_of}
use Rattle.widget_model.specs.Trees.{is_child, ends_within, most_levels}
use Rattle.widget_model.specs.Planted.{IsPlanted}
use Rattle.widget_model.proofs.Hanging.{all_at, find-passes, find-element, row_named-own}
use Rattle.scene_model.specs.declared.axis.Axis.{Axis}
use Rattle.scene_model.specs.Spans.{along}
use Rattle.scene_model.specs.Tracks.{Need, need_of, rules_of, grid_least}
use Rattle.scene_model.specs.Least.{own_size, is_grid, least_by, least_in, least_of}
use Rattle.scene_model.specs.Scene.{Scene}
use Rattle.scene_model.specs.Showing.{shows_at, child_at, lowest_in}
use Rattle.scene_model.proofs.Lists.{map-filter-same}
use Rattle.scene_model.proofs.Parents.{IsChildOf-is_child, ends_within-child}

-- going up from each row ends within so many levels
pub record AllEnd (most : ℕ) (rows : List Row) : Type 0 where
  pub each : (i : ℕ) (row : Row) → slice_get rows i ≡ Some row → ends_within most rows row.client row.name ≡ true

pub AllEnd-planted : (rows : List Row) → IsPlanted rows → AllEnd most_levels rows
AllEnd-planted rows planted = record { each = λ i row there. all_at (λ (r : Row). ends_within most_levels rows r.client r.name) rows i row planted.low there }

-- least functions that agree on the children make the same of the parent
pub least_by-same : (f g : Row → ℕ) (axis : Axis) (rows : List Row) (row : Row) → ((i : ℕ) (child : Row) → slice_get rows i ≡ Some child → is_child row.client row.name child ≡ true → f child ≡ g child) → least_by f axis rows row ≡ least_by g axis rows row
unfolding least_by
least_by-same f g axis rows row same =
    ap (λ (needs : List Need). cond (is_grid row.kind) (grid_least needs (rules_of axis row)) (along axis (own_size row.kind rows row).0 (own_size row.kind rows row).1))
    (map-filter-same (need_of f axis) (need_of g axis) (is_child row.client row.name) rows (λ i child there is. ap (λ (least : ℕ). need_of (λ other. least) axis child) (same i child there is)))

-- a child is one level deeper
pub deeper : (few : ℕ) (rows : List Row) (client : ℕ) (name : List ℕ) (i : ℕ) (child : Row) → AreNamedApart rows → slice_get rows i ≡ Some child → is_child client name child ≡ true → ends_within few rows client name ≡ false → ends_within (suc few) rows child.client child.name ≡ false
deeper few rows client name i child apart there is deep =
    ends_within-child few rows client name child (record { named = row_named-own rows i child apart there }) (IsChildOf-is_child client name child is) ∙ deep

pub least_in-loose : (above few most total : ℕ) (rows : List Row) (axis : Axis) (i : ℕ) (row : Row) → above + few ≡ total → few ≤ most → AreNamedApart rows → AllEnd total rows → slice_get rows i ≡ Some row → ends_within above rows row.client row.name ≡ false
    → least_in most rows axis row ≡ least_in few rows axis row
least_in-loose above zero most total rows axis i row sum less apart all there deep =
    let whole : above ≡ total = omega arith in
    absurd (true≢false (sym (ap (λ (n : ℕ). ends_within n rows row.client row.name) whole ∙ all.each i row there) ∙ deep))
least_in-loose above (suc few) zero total rows axis i row sum less apart all there deep = absurd (omega arith)
least_in-loose above (suc few) (suc most) total rows axis i row sum less apart all there deep =
    least_by-same (least_in most rows axis) (least_in few rows axis) axis rows row
    (λ j child at is. least_in-loose (suc above) few most total rows axis j child (omega arith) (omega arith) apart all at (deeper above rows row.client row.name j child apart at is deep))

pub least_in-children : (most : ℕ) (rows : List Row) (axis : Axis) (i : ℕ) (row : Row) → AreNamedApart rows → AllEnd most rows → slice_get rows i ≡ Some row → least_in most rows axis row ≡ least_by (least_in most rows axis) axis rows row
least_in-children most rows axis i row apart all there = sym (least_in-loose zero most (suc most) most rows axis i row (omega arith) (omega arith) apart all there refl)

pub least_of-children : (rows : List Row) (axis : Axis) (i : ℕ) (row : Row) → IsPlanted rows → AreNamedApart rows → slice_get rows i ≡ Some row → least_of rows axis row ≡ least_by (least_of rows axis) axis rows row
unfolding least_of
least_of-children rows axis i row planted apart there = least_in-children most_levels rows axis i row apart (AllEnd-planted rows planted) there

-- the child that shows a pixel is a row
pub record IsChildAt (scene : Scene) (key child : ℕ × List ℕ) (x y : ℤ) : Type 0 where
  pub i : ℕ
  pub row : Row
  pub there : slice_get scene.rows i ≡ Some row
  pub is : is_child key.0 key.1 row ≡ true
  pub shown : shows_at scene (key_of row) x y ≡ true
  pub keyed : key_of row ≡ child

pub IsChildAt-child_at : (scene : Scene) (key : ℕ × List ℕ) (x y : ℤ) (child : ℕ × List ℕ) → child_at scene key x y ≡ Some child → IsChildAt scene key child x y
IsChildAt-child_at scene key x y child at = by (find (λ (row : Row). is_child key.0 key.1 row && shows_at scene (key_of row) x y) scene.rows) refl at
  where
    by : (o : Option Row) → find (λ (row : Row). is_child key.0 key.1 row && shows_at scene (key_of row) x y) scene.rows ≡ o → option_map key_of o ≡ Some child → IsChildAt scene key child x y
    by None found h = absurd (cc)
    by (Some row) found h =
        let place = find-element (λ (row : Row). is_child key.0 key.1 row && shows_at scene (key_of row) x y) scene.rows row found in
        let passes = and_parts (is_child key.0 key.1 row) (shows_at scene (key_of row) x y) (find-passes (λ (row : Row). is_child key.0 key.1 row && shows_at scene (key_of row) x y) scene.rows row found) in
        record { i = place.0; row = row; there = place.1; is = passes.0; shown = passes.1; keyed = cc }

pub lowest_in-loose : (above few most total : ℕ) (scene : Scene) (x y : ℤ) (key : ℕ × List ℕ) → above + few ≡ total → few ≤ most → AreNamedApart scene.rows → AllEnd total scene.rows → ends_within total scene.rows key.0 key.1 ≡ true → ends_within above scene.rows key.0 key.1 ≡ false
    → lowest_in most scene x y key ≡ lowest_in few scene x y key
lowest_in-loose above zero most total scene x y key sum less apart all ends deep =
    let whole : above ≡ total = omega arith in
    absurd (true≢false (sym (ap (λ (n : ℕ). ends_within n scene.rows key.0 key.1) whole ∙ ends) ∙ deep))
lowest_in-loose above (suc few) zero total scene x y key sum less apart all ends deep = absurd (omega arith)
lowest_in-loose above (suc few) (suc most) total scene x y key sum less apart all ends deep =
    by (λ child end low. lowest_in-loose (suc above) few most total scene x y child (omega arith) (omega arith) apart all end low) (child_at scene key x y) refl
  where
    by : ((child : ℕ × List ℕ) → ends_within total scene.rows child.0 child.1 ≡ true → ends_within (suc above) scene.rows child.0 child.1 ≡ false → lowest_in most scene x y child ≡ lowest_in few scene x y child) → (o : Option (ℕ × List ℕ)) → child_at scene key x y ≡ o
        → option_map_or (lowest_in most scene x y) o key ≡ option_map_or (lowest_in few scene x y) o key
    by rest None at = refl
    by rest (Some child) at =
        let is = IsChildAt-child_at scene key x y child at in
        rest child
        (ap (λ (k : ℕ × List ℕ). ends_within total scene.rows k.0 k.1) (sym is.keyed) ∙ all.each is.i is.row is.there)
        (ap (λ (k : ℕ × List ℕ). ends_within (suc above) scene.rows k.0 k.1) (sym is.keyed) ∙ deeper above scene.rows key.0 key.1 is.i is.row apart is.there is.is deep)

pub lowest_in-child : (scene : Scene) (x y : ℤ) (key : ℕ × List ℕ) → IsPlanted scene.rows → AreNamedApart scene.rows → ends_within most_levels scene.rows key.0 key.1 ≡ true
    → lowest_in most_levels scene x y key ≡ option_map_or (lowest_in most_levels scene x y) (child_at scene key x y) key
lowest_in-child scene x y key planted apart ends = sym (lowest_in-loose zero most_levels (suc most_levels) most_levels scene x y key (omega arith) (omega arith) apart (AllEnd-planted scene.rows planted) ends refl)

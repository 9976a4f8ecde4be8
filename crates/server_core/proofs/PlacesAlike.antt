-- Where rows hang alike and the same places are due, what hangs under a Window has its place still, and shows the pixels that
-- it showed.
use Rattle.std.proofs.Common.{◌≡◌, ℕ, zero, suc, ℤ, pos, Bool, true, cond, ◌&&◌, List, map, Option, Some, None, refl, sym, ap, ◌∙◌}
use Rattle.std.specs.Option.{option_map, option_map_or, option_and_then}
use Rattle.geom_core.specs.declared.rectangle.Rect.{Rect}
use Rattle.geom_core.specs.Rect.{in_rect}
use Rattle.widget_model.specs.Rows.{Row}
use Rattle.widget_model.specs.Named.{is_kind_of}
use Rattle.widget_model.specs.Kinds.{is_window_kind}
use Rattle.widget_model.specs.Keys.{key_of, row_of, root_key}
use Rattle.widget_model.specs.Trees.{most_levels}
use Rattle.widget_model.specs.Planted.{IsPlanted}
use Rattle.widget_model.proofs.Hanging.{IsNamed-row_named}
use Rattle.scene_model.specs.Scene.{Scene}
use Rattle.scene_model.specs.Placing.{place_in}
use Rattle.scene_model.specs.DuePlaces.{due_place}
use Rattle.scene_model.specs.Showing.{place_of, parent_in, on_screen, shows_in, shows_at}
use Rattle.scene_model.proofs.LevelLaws.{children_have_their_parents_root}
use Rattle.desk_model.specs.InPlace.{hung_of, due_of}
use Rattle.server_core.proofs.RowsAlike.{parent_key-alike, root_key-alike}

-- the key's root is a Window
abbrev pub IsUnderWindow : List Row → ℕ × List ℕ → Type 0
IsUnderWindow rows key = is_kind_of is_window_kind (row_of rows (root_key rows key)) ≡ true

-- the place that is due under a Window is the place
due-read : (rows : List Row) (key : ℕ × List ℕ) → IsUnderWindow rows key → due_of rows key ≡ option_map (place_in rows) (row_of rows key)
unfolding due_place
due-read rows key under = by (row_of rows key) refl
  where
    given : Row → Bool → Option Rect
    given row b = cond b (Some (place_in rows row)) None

    by : (o : Option Row) → row_of rows key ≡ o → option_and_then (due_place rows) o ≡ option_map (place_in rows) o
    by None found = refl
    by (Some row) found =
        let named = IsNamed-row_named rows key.0 key.1 row found in
        let same : key_of row ≡ key = λ i. (named.client_is i, named.name_is i) in
        ap (λ (k : ℕ × List ℕ). given row (is_kind_of is_window_kind (row_of rows (root_key rows k)))) same ∙ ap (given row) under

abbrev nowhere : Rect
nowhere = record { x = pos 0; y = pos 0; w = 0; h = 0 }

place-read : (scene : Scene) (key : ℕ × List ℕ) → place_of scene key ≡ option_map_or (λ (place : Rect). place) (option_map (place_in scene.rows) (row_of scene.rows key)) nowhere
unfolding place_of
place-read scene key = by (row_of scene.rows key)
  where
    by : (o : Option Row) → option_map_or (place_in scene.rows) o nowhere ≡ option_map_or (λ (place : Rect). place) (option_map (place_in scene.rows) o) nowhere
    by None = refl
    by (Some row) = refl

module _ (scene scene' : Scene) (hung : map hung_of scene'.rows ≡ map hung_of scene.rows) (places : (key : ℕ × List ℕ) → due_of scene'.rows key ≡ due_of scene.rows key) where
  pub place-alike : (key : ℕ × List ℕ) → IsUnderWindow scene.rows key → IsUnderWindow scene'.rows key → place_of scene' key ≡ place_of scene key
  place-alike key under under' =
      place-read scene' key
      ∙ ap (λ (o : Option Rect). option_map_or (λ (place : Rect). place) o nowhere) (sym (due-read scene'.rows key under') ∙ places key ∙ due-read scene.rows key under)
      ∙ sym (place-read scene key)

  parent-alike : (key : ℕ × List ℕ) → parent_in scene' key ≡ parent_in scene key
  unfolding parent_in
  parent-alike key = parent_key-alike scene.rows scene'.rows hung key

  -- a key and the widget that it hangs in have one root, also in the changed scene
  under-up : (key upper : ℕ × List ℕ) → IsPlanted scene.rows → parent_in scene key ≡ Some upper → IsUnderWindow scene.rows key → IsUnderWindow scene.rows upper
  unfolding parent_in
  under-up key upper planted above under =
      ap (λ (k : ℕ × List ℕ). is_kind_of is_window_kind (row_of scene.rows k)) (sym (children_have_their_parents_root scene.rows key upper planted above)) ∙ under

  under-up' : (key upper : ℕ × List ℕ) → IsPlanted scene.rows → parent_in scene key ≡ Some upper → IsUnderWindow scene'.rows key → IsUnderWindow scene'.rows upper
  unfolding parent_in
  under-up' key upper planted above under =
      ap (λ (k : ℕ × List ℕ). is_kind_of is_window_kind (row_of scene'.rows k))
      (root_key-alike scene.rows scene'.rows hung upper ∙ sym (children_have_their_parents_root scene.rows key upper planted above) ∙ sym (root_key-alike scene.rows scene'.rows hung key))
      ∙ under

  shows_in-alike : (most : ℕ) (key : ℕ × List ℕ) (x y : ℤ) → scene'.width ≡ scene.width → scene'.height ≡ scene.height → IsPlanted scene.rows → IsUnderWindow scene.rows key → IsUnderWindow scene'.rows key → shows_in most scene' key x y ≡ shows_in most scene key x y
  shows_in-alike zero key x y width height planted under under' = refl
  shows_in-alike (suc most) key x y width height planted under under' =
      let on : on_screen scene' x y ≡ on_screen scene x y = λ i. on_screen (record scene { width = width i; height = height i }) x y in
      (λ i. in_rect (place-alike key under under' i) x y && option_map_or (λ (upper : ℕ × List ℕ). shows_in most scene' upper x y) (parent-alike key i) (on i))
      ∙ ap (λ (b : Bool). in_rect (place_of scene key) x y && b)
      (by (λ upper above. shows_in-alike most upper x y width height planted (under-up key upper planted above under) (under-up' key upper planted above under')) (parent_in scene key) refl)
    where
      by : ((upper : ℕ × List ℕ) → parent_in scene key ≡ Some upper → shows_in most scene' upper x y ≡ shows_in most scene upper x y) → (o : Option (ℕ × List ℕ)) → parent_in scene key ≡ o
          → option_map_or (λ (upper : ℕ × List ℕ). shows_in most scene' upper x y) o (on_screen scene x y) ≡ option_map_or (λ (upper : ℕ × List ℕ). shows_in most scene upper x y) o (on_screen scene x y)
      by rest None above = refl
      by rest (Some upper) above = rest upper above

  pub shows_at-alike : (key : ℕ × List ℕ) (x y : ℤ) → scene'.width ≡ scene.width → scene'.height ≡ scene.height → IsPlanted scene.rows → IsUnderWindow scene.rows key → IsUnderWindow scene'.rows key → shows_at scene' key x y ≡ shows_at scene key x y
  unfolding shows_at
  shows_at-alike key x y width height planted under under' = shows_in-alike most_levels key x y width height planted under under'

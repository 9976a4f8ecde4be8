-- The reach by numbers is the reach: what two shots give of a row, where they are those of two scenes under one numbering
-- of their widgets.
use Rattle.std.specs.Prelude.{ℕ, ℤ, ◌≡◌, Bool, true, false, ◌&&◌, not, nat_eq, List, [], ◌++◌, map, None, IsSomeAnd}
use Rattle.std.specs.List.{list_any}
use Rattle.std.specs.Option.{option_map}
use Rattle.geom_core.specs.Rect.{in_rect}
use Rattle.look_core.specs.Same.{same_look}
use Rattle.widget_model.specs.Keys.{same_key, root_key}
use Rattle.scene_model.specs.Scene.{Scene}
use Rattle.scene_model.specs.Showing.{place_of, parent_in, shows_at, is_open_in}
use Rattle.scene_model.specs.Colours.{look_at}
use Rattle.machine_model.specs.Damage.{keys_in, in_reach}
use Rattle.machine_model.specs.DamageLaws.{IsSound}
use Rattle.machine_model.specs.DamageKeys.{in_reach_by}
use Rattle.shot_core.specs.Shot.{Seen, spot_at}
use Rattle.shot_core.specs.declared.spot.Spot.{Spot}
use Rattle.damage_rules.specs.Areas.{areas_of}

-- no two of the keys have one number
abbrev pub IsNumbering : (ℕ × List ℕ → ℕ) → List (ℕ × List ℕ) → Type 0
IsNumbering number keys = (a b : ℕ × List ℕ) → list_any (same_key a) keys ≡ true → list_any (same_key b) keys ≡ true → number a ≡ number b → a ≡ b

-- the spot of the widget with this key
pub record IsSpotOf (number : ℕ × List ℕ → ℕ) (scene : Scene) (key : ℕ × List ℕ) (spot : Spot) : Type 0 where
  pub parent : spot.parent ≡ option_map number (parent_in scene key)
  pub window : spot.window ≡ number (root_key scene.rows key)
  pub place : spot.place ≡ place_of scene key
  pub shown : (x y : ℤ) → in_rect spot.shown x y ≡ shows_at scene key x y

-- whether the widget is shown: it is one of the scene, and its window is open
abbrev pub is_shown : Scene → ℕ × List ℕ → Bool
is_shown scene key = list_any (same_key key) (keys_in scene) && is_open_in scene (root_key scene.rows key)

-- The shot is that of the scene: its windows are the open ones, and just the shown widgets have spots, among all keys.
pub record IsShotOf (number : ℕ × List ℕ → ℕ) (keys : List (ℕ × List ℕ)) (scene : Scene) (shot : Seen) : Type 0 where
  pub windows : shot.windows ≡ map (λ key. (number key, place_of scene key)) scene.windows
  pub shown : (key : ℕ × List ℕ) → is_shown scene key ≡ true → IsSomeAnd (spot_at shot (number key)) (IsSpotOf number scene key)
  pub unshown : (key : ℕ × List ℕ) → list_any (same_key key) keys ≡ true → is_shown scene key ≡ false → spot_at shot (number key) ≡ None
  pub others : (id : ℕ) → list_any (nat_eq id) (map number keys) ≡ false → spot_at shot id ≡ None

-- The touched looks are those that differ of the widgets shown in both.
abbrev pub AreLooksOf : (ℕ × List ℕ → ℕ) → Scene → Scene → List ℕ → Type 0
AreLooksOf number before after looks =
    (key : ℕ × List ℕ) → is_shown before key ≡ true → is_shown after key ≡ true → list_any (nat_eq (number key)) looks ≡ not (same_look (look_at before key) (look_at after key))

-- the pixels in the areas that `reach` answers of a number
abbrev pub in_areas : Seen → Seen → List ℕ → ℤ → ℤ → ℕ → Bool
in_areas shot shot' looks x y id = list_any (λ area. in_rect area x y) (areas_of shot shot' looks id)

-- two sound scenes under one numbering, their shots, and the looks that differ between them
pub record AreNumbered (number : ℕ × List ℕ → ℕ) (before after : Scene) (shot shot' : Seen) (looks : List ℕ) : Type 0 where
  pub sound_before : IsSound before
  pub sound_after : IsSound after
  pub own : IsNumbering number (keys_in before ++ keys_in after)
  pub shot_before : IsShotOf number (keys_in before ++ keys_in after) before shot
  pub shot_after : IsShotOf number (keys_in before ++ keys_in after) after shot'
  pub looks_differ : AreLooksOf number before after looks

-- What `reach` answers of a widget's number are the areas that the widget gives the reach.
abbrev pub ReachByNumbers : Type 0
ReachByNumbers =
    (number : ℕ × List ℕ → ℕ) (before after : Scene) (shot shot' : Seen) (looks : List ℕ) → AreNumbered number before after shot shot' looks
    → (key : ℕ × List ℕ) → list_any (same_key key) (keys_in before ++ keys_in after) ≡ true
    → (x y : ℤ) → in_areas shot shot' looks x y (number key) ≡ in_reach_by before after x y key

-- It answers none of a number that no widget has.
abbrev pub NothingOfOtherNumbers : Type 0
NothingOfOtherNumbers =
    (number : ℕ × List ℕ → ℕ) (before after : Scene) (shot shot' : Seen) (looks : List ℕ) → AreNumbered number before after shot shot' looks
    → (id : ℕ) → list_any (nat_eq id) (map number (keys_in before ++ keys_in after)) ≡ false → areas_of shot shot' looks id ≡ []

-- All of them together are the reach.
abbrev pub ReachIsTheirUnion : Type 0
ReachIsTheirUnion =
    (number : ℕ × List ℕ → ℕ) (before after : Scene) (shot shot' : Seen) (looks : List ℕ) → AreNumbered number before after shot shot' looks
    → (x y : ℤ) → in_reach before after x y ≡ list_any (in_areas shot shot' looks x y) (map number (keys_in before ++ keys_in after))

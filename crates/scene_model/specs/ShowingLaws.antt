-- What is proved of what widgets show: a child shows pixels of its parent alone, and two children share none.
use Rattle.std.specs.Prelude.{◌≡◌, ℕ, ℤ, true, false, ◌&&◌, List, Some}
use Rattle.geom_core.specs.Rect.{in_rect}
use Rattle.widget_model.specs.Keys.{same_key}
use Rattle.widget_model.specs.Planted.{IsPlanted}
use Rattle.scene_model.specs.Scene.{Scene}
use Rattle.scene_model.specs.Showing.{place_of, parent_in, shows_at}

-- no pixel is in the places of two children of one widget
abbrev pub PlacesOfChildrenAreApart : Type 0
PlacesOfChildrenAreApart =
    (scene : Scene) (a b parent : ℕ × List ℕ) (x y : ℤ) → IsPlanted scene.rows → parent_in scene a ≡ Some parent → parent_in scene b ≡ Some parent → same_key a b ≡ false
    → (in_rect (place_of scene a) x y && in_rect (place_of scene b) x y) ≡ false

-- so none is shown by both
abbrev pub ChildrenShareNoPixel : Type 0
ChildrenShareNoPixel =
    (scene : Scene) (a b parent : ℕ × List ℕ) (x y : ℤ) → IsPlanted scene.rows → parent_in scene a ≡ Some parent → parent_in scene b ≡ Some parent → same_key a b ≡ false
    → (shows_at scene a x y && shows_at scene b x y) ≡ false

-- a pixel that a child shows its parent shows
abbrev pub ShownLiesInParents : Type 0
ShownLiesInParents =
    (scene : Scene) (key parent : ℕ × List ℕ) (x y : ℤ) → IsPlanted scene.rows → parent_in scene key ≡ Some parent → shows_at scene key x y ≡ true
    → shows_at scene parent x y ≡ true

-- a pixel that a widget shows is in its place
abbrev pub ShownLiesInPlace : Type 0
ShownLiesInPlace = (scene : Scene) (key : ℕ × List ℕ) (x y : ℤ) → shows_at scene key x y ≡ true → in_rect (place_of scene key) x y ≡ true

-- What is proved of the widget on top at a pixel: it is the one below the first window that shows the pixel which shows it
-- and has no child that does.
use Rattle.std.specs.Prelude.{◌≡◌, ℕ, ℤ, true, false, List, Some, None}
use Rattle.std.specs.List.{All}
use Rattle.widget_model.specs.Named.{AreNamedApart}
use Rattle.widget_model.specs.Keys.{root_key}
use Rattle.widget_model.specs.Planted.{IsPlanted}
use Rattle.scene_model.specs.Scene.{Scene}
use Rattle.scene_model.specs.Showing.{parent_in, shows_at, window_at, child_at, top_of}

-- a child that shows the pixel is the one that is found there
abbrev pub ShowingChildIsFound : Type 0
ShowingChildIsFound =
    (scene : Scene) (key child : ℕ × List ℕ) (x y : ℤ) → IsPlanted scene.rows → AreNamedApart scene.rows → parent_in scene child ≡ Some key → shows_at scene child x y ≡ true
    → child_at scene key x y ≡ Some child

-- and the one that is found is a child, and shows it
pub record IsShowingChild (scene : Scene) (key child : ℕ × List ℕ) (x y : ℤ) : Type 0 where
  pub parent : parent_in scene child ≡ Some key
  pub shown : shows_at scene child x y ≡ true

abbrev pub FoundChildShows : Type 0
FoundChildShows =
    (scene : Scene) (key child : ℕ × List ℕ) (x y : ℤ) → AreNamedApart scene.rows → child_at scene key x y ≡ Some child → IsShowingChild scene key child x y

-- The widget shows the pixel and has no child that does, and it is the window or hangs under it, where the window is the
-- first that shows the pixel.
pub record IsOnTop (scene : Scene) (window key : ℕ × List ℕ) (x y : ℤ) : Type 0 where
  pub first : window_at scene x y ≡ Some window
  pub under : root_key scene.rows key ≡ root_key scene.rows window
  pub shown : shows_at scene key x y ≡ true
  pub lowest : (child : ℕ × List ℕ) → parent_in scene child ≡ Some key → shows_at scene child x y ≡ false

abbrev pub TopIsOnTop : Type 0
TopIsOnTop =
    (scene : Scene) (key : ℕ × List ℕ) (x y : ℤ) → IsPlanted scene.rows → AreNamedApart scene.rows → top_of scene x y ≡ Some key
    → (window : ℕ × List ℕ) × IsOnTop scene window key x y

-- there is no other such widget, where the first window that shows the pixel hangs in no other widget
abbrev pub OnTopIsTop : Type 0
OnTopIsTop =
    (scene : Scene) (window key : ℕ × List ℕ) (x y : ℤ) → IsPlanted scene.rows → AreNamedApart scene.rows → parent_in scene window ≡ None → IsOnTop scene window key x y
    → top_of scene x y ≡ Some key

-- where there is none, no open window shows the pixel
abbrev pub NoTopShowsNothing : Type 0
NoTopShowsNothing = (scene : Scene) (x y : ℤ) → top_of scene x y ≡ None → All (λ window. shows_at scene window x y ≡ false) scene.windows

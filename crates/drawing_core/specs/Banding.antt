-- What drawing the bands of films does: where the screen shows a pixel of one of the bands it gets its colour, and nothing
-- else changes.
use Rattle.std.specs.Prelude.{◌≡◌, ℕ, ◌+◌, ◌-◌, ◌≤◌, ℤ, Bool, false, nat_eq, List, [], ◌∷◌}
use Rattle.std.specs.List.{list_any}
use Rattle.geom_core.specs.Count.{count_in, screen_of}
use Rattle.canvas_core.specs.Screen.{Screen, IsScreen, risen}
use Rattle.tree_core.specs.declared.id.Id.{Id}
use Rattle.vscreen_core.specs.declared.band.Band.{Band}
use Rattle.scene_core.specs.declared.view.View.{View}
use Rattle.scene_core.specs.View.{scene_of}
use Rattle.painter_core.specs.Banding.{view_shows_band}
use Rattle.painter_core.specs.Painting.{ShowsScene}

-- whether the screen shows a pixel of one of the bands there: its widget is on top, at a pixel of its film that is in it
abbrev pub shows_a_band : View → List (Id × Band) → ℤ → ℤ → Bool
shows_a_band view bands x y = list_any (λ (entry : Id × Band). view_shows_band view entry.0.key entry.1 x y) bands

-- No widget has two bands.
abbrev pub AreOfOneEach : List (Id × Band) → Type 0
AreOfOneEach [] = Unit {0}
AreOfOneEach (entry ∷ entries) = (list_any (λ (other : Id × Band). nat_eq entry.0.key other.0.key) entries ≡ false) × AreOfOneEach entries

-- Each pixel of the screen that shows one of the bands is as the scene shows it, so many they are, and no other pixel
-- changed. As many bytes were written, of which the count of all time tells too; of spans it tells as many as the count
-- since the last start.
pub record BandsDrawn (view : View) (bands : List (Id × Band)) (count : ℕ) (screen drawn : Screen) : Type 0 where
  pub pixels : ShowsScene (shows_a_band view bands) (scene_of view) screen drawn
  pub counted : count ≡ count_in (shows_a_band view bands) (screen_of view.width view.height)
  pub writes : drawn.writes ≡ screen.writes + count
  pub all_writes : drawn.all_writes ≡ risen screen.all_writes count
  pub spans_grow : screen.spans ≤ drawn.spans
  pub all_spans : drawn.all_spans ≡ risen screen.all_spans (drawn.spans - screen.spans)
  pub width : drawn.width ≡ screen.width
  pub height : drawn.height ≡ screen.height
  pub canvas : IsScreen drawn

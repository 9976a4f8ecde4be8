-- What drawing a part of the dirt does: pixels that were dirty get their colours and are clean then, and nothing else
-- changes. Which pixels come first is free.
use Rattle.std.specs.Prelude.{◌≡◌, ℕ, ◌+◌, ◌-◌, ◌≤◌, pos, Bool, true, ◌&&◌, not, if◌then◌else◌}
use Rattle.canvas_core.specs.Screen.{Screen, IsScreen, pixel_of, risen}
use Rattle.scene_model.specs.Scene.{Scene}
use Rattle.scene_model.specs.Colours.{colour_at}
use Rattle.redraw_core.specs.Dirt.{Dirt, IsDirt, EachPixel, is_dirty, dirty_count}

-- the pixel was dirty and is clean now
abbrev pub was_cleaned : Dirt → Dirt → ℕ → ℕ → Bool
was_cleaned old new x y = is_dirty old x y && not (is_dirty new x y)

-- So many dirty pixels were cleaned. Each of them is as the scene shows it, and no other changed. As many bytes were
-- written, of which the count of all time tells too; of spans it tells as many as the count since the last start.
pub record Drawn (scene : Scene) (old : Dirt) (screen : Screen) (count : ℕ) (new : Dirt) (drawn : Screen) : Type 0 where
  pub pixels : EachPixel old (λ x y. pixel_of drawn x y ≡ (if was_cleaned old new x y then colour_at scene (pos x) (pos y) else pixel_of screen x y))
  pub cleans : EachPixel old (λ x y. is_dirty new x y ≡ true → is_dirty old x y ≡ true)
  pub cleaned : dirty_count new + count ≡ dirty_count old
  pub writes : drawn.writes ≡ screen.writes + count
  pub all_writes : drawn.all_writes ≡ risen screen.all_writes count
  pub spans_grow : screen.spans ≤ drawn.spans
  pub all_spans : drawn.all_spans ≡ risen screen.all_spans (drawn.spans - screen.spans)
  pub dirt_width : new.width ≡ old.width
  pub dirt_height : new.height ≡ old.height
  pub dirt : IsDirt new
  pub canvas_width : drawn.width ≡ screen.width
  pub canvas_height : drawn.height ≡ screen.height
  pub canvas : IsScreen drawn

-- The reach of a change from one desk to another, at a pixel of the screen: the reach between their scenes.
use Rattle.std.specs.Prelude.{ℕ, pos, Bool}
use Rattle.desk_model.specs.Desk.{Desk}
use Rattle.desk_model.specs.Seen.{scene_of}
use Rattle.machine_model.specs.Damage.{in_reach}

-- whether the change reaches the pixel (x, y), which then has to be drawn again
unfoldable pub is_reached : Desk → Desk → ℕ → ℕ → Bool
is_reached before after x y = in_reach (scene_of before) (scene_of after) (pos x) (pos y)

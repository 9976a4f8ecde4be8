-- The law of the reach once more, of desks: between two desks of one shape each pixel outside the reach has the same
-- colour in both.
use Rattle.std.specs.Prelude.{ℤ, ◌≡◌, false}
use Rattle.scene_model.specs.Colours.{colour_at}
use Rattle.desk_model.specs.Desk.{Desk}
use Rattle.desk_model.specs.DeskFacts.{IsDesk}
use Rattle.desk_model.specs.Seen.{scene_of}
use Rattle.machine_model.specs.Damage.{in_reach}

abbrev pub DesksSameOutsideReach : Type 0
DesksSameOutsideReach =
    (before after : Desk) → IsDesk before → IsDesk after → before.shape ≡ after.shape → (x y : ℤ) → in_reach (scene_of before) (scene_of after) x y ≡ false → colour_at (scene_of before) x y ≡ colour_at (scene_of after) x y

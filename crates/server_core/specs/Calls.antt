-- A call on the desk, by what it says of itself: what became dirty is what the change reaches, and the shot that is kept is
-- that of what the desk shows.
use Rattle.std.specs.Prelude.{◌≡◌}
use Rattle.desk_model.specs.Desk.{Desk}
use Rattle.desk_model.specs.DeskFacts.{IsDesk}
use Rattle.desk_model.specs.Seen.{scene_of}
use Rattle.machine_model.specs.Damage.{in_reach}
use Rattle.redraw_core.specs.Dirt.{Dirt}
use Rattle.shot_core.specs.Shot.{Seen}
use Rattle.drawing_core.specs.Marking.{Marked}
use Rattle.desk_layout.specs.Numbers.{KeepsNumbers}
use Rattle.desk_core.specs.View.{DeskView, StaysUnlessMoved}
use Rattle.desk_core.specs.Touching.{TellsTouched}
use Rattle.server_core.specs.Serving.{ShowsDesk}

-- just what the change from one desk to the other reaches became dirty
abbrev pub MarkedReach : Desk → Desk → Dirt → Dirt → Type 0
MarkedReach before after old new = Marked (in_reach (scene_of before) (scene_of after)) old new

-- The shot is of what the desk showed before the call, which kept the desk's shape and what holds of it, and said of itself
-- what calls say.
pub record Calls (before after : DeskView) (shot : Seen) : Type 0 where
  pub shape : after.desk.shape ≡ before.desk.shape
  pub valid : IsDesk after.desk
  pub shows : ShowsDesk before shot
  pub numbered : KeepsNumbers before.widgets.entries after.widgets.entries
  pub still : StaysUnlessMoved before after
  pub touched : TellsTouched before after

-- what follows of it for the dirt and for the shot
pub record Follows (before after : DeskView) (old new : Dirt) (shot : Seen) : Type 0 where
  pub marked : MarkedReach before.desk after.desk old new
  pub shows : ShowsDesk after shot

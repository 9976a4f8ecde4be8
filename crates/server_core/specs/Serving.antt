-- What contracts see of a server: the state of the machine, how many bytes of the screen and spans were written since
-- the last tick began, and how many of all time, modulo 2^64.
use Rattle.std.specs.Prelude.{◌≡◌, ℕ, Bool, List}
use Rattle.canvas_core.specs.Screen.{Screen, IsScreen}
use Rattle.kind_core.specs.declared.shapes.Shape.{Shape}
use Rattle.desk_model.specs.Desk.{Desk}
use Rattle.desk_model.specs.Seen.{scene_of}
use Rattle.redraw_core.specs.Dirt.{Dirt, IsDirt}
use Rattle.machine_model.specs.State.{State, IsState}
use Rattle.shot_core.specs.Shot.{Seen}
use Rattle.damage_rules.specs.Views.{Sight, IsSight, IsShotIn, scene_in}
use Rattle.desk_core.specs.View.{DeskView}

pub record Serving : Type 0 where
  pub state : State
  pub writes : ℕ
  pub spans : ℕ
  pub all_writes : ℕ
  pub all_spans : ℕ

-- the state that a server's parts make up
abbrev pub state_of : Desk → List ℕ → List Bool → State
state_of desk bytes dirt = record { desk = desk; screen = bytes; dirt = dirt }

-- What is true of every server's parts: they make up a valid state, and the canvas and the queue of dirt have the
-- screen's sides.
pub record IsServing (shape : Shape) (desk : Desk) (canvas : Screen) (queue : Dirt) : Type 0 where
  pub state : IsState (state_of desk canvas.bytes queue.marks)
  pub shape_is : desk.shape ≡ shape
  pub screen : IsScreen canvas
  pub width : canvas.width ≡ shape.width
  pub height : canvas.height ≡ shape.height
  pub dirt : IsDirt queue
  pub dirt_width : queue.width ≡ shape.width
  pub dirt_height : queue.height ≡ shape.height

-- The shot is the one of what the desk shows.
pub record ShowsDesk (desk : DeskView) (shot : Seen) : Type 0 where
  pub sight : Sight
  pub width : ℕ
  pub height : ℕ
  pub is : IsSight sight
  pub widgets : sight.widgets ≡ desk.widgets
  pub windows : sight.windows ≡ desk.windows
  pub scene : scene_in sight width height ≡ scene_of desk.desk
  pub is_shot : IsShotIn sight width height shot

-- Inner words of the proofs: what always holds of a desk's parts.
use Rattle.std.specs.Prelude.{ℕ, ◌<◌, List}
use Rattle.kind_core.specs.declared.shapes.Shape.{Shape}
use Rattle.admit_core.specs.Roster.{RosterState}
use Rattle.widget_model.specs.Widgets.{Widgets}
use Rattle.tree_core.specs.declared.pointer.Pointer.{Pointer}
use Rattle.desk_model.specs.Desk.{Ring}
use Rattle.desk_model.specs.DeskFacts.{IsDesk}
use Rattle.desk_layout.specs.Placed.{HaveDuePlaces}
use Rattle.desk_commands.specs.Parts.{desk_of, stage_of, AreParts, ListsAdmitted, HasLimitOf}
use Rattle.desk_commands.specs.Pointer.{HoldsLive}
use Rattle.desk_core.specs.ClientList.{clients_of}

-- what the parts keep together, and what holds of the pointer, which is on the screen, of the roster, of the desk that
-- they make up and of the kept places
pub record IsKept (shape : Shape) (pointer : Pointer) (rings : List Ring) (widgets : Widgets) (keys : List ℕ) (roster : RosterState) : Type 0 where
  pub parts : AreParts (clients_of rings) widgets keys
  pub held : HoldsLive widgets.entries pointer
  pub limit : HasLimitOf shape roster
  pub listed : ListsAdmitted widgets.entries roster
  pub desk : IsDesk (desk_of (stage_of shape roster rings widgets pointer) widgets keys)
  pub placed : HaveDuePlaces widgets
  pub across : pointer.x < shape.width
  pub down : pointer.y < shape.height

-- The scene of a desk for which all holds that always holds is sound, so the law of the reach is one of desks.
use Rattle.std.proofs.Common.{ap}
use Rattle.kind_core.specs.declared.shapes.Shape.{Shape}
use Rattle.desk_model.specs.Desk.{Desk}
use Rattle.desk_model.specs.DeskFacts.{IsDesk}
use Rattle.desk_model.specs.Seen.{scene_of}
use Rattle.machine_model.specs.DamageLaws.{IsSound}
use Rattle.machine_model.specs.DeskDamage.{DesksSameOutsideReach}
use Rattle.machine_model.proofs.OutsideDamage.{same_outside_reach}

pub IsSound-desk : (desk : Desk) → IsDesk desk → IsSound (scene_of desk)
IsSound-desk desk is = record { names = is.rows.names; planted = is.rows.planted; windows = is.windows }

pub desks_same_outside_reach : DesksSameOutsideReach
desks_same_outside_reach before after is is' same x y unreached =
    same_outside_reach (scene_of before) (scene_of after) (IsSound-desk before is) (IsSound-desk after is') (ap (λ (shape : Shape). shape.width) same) (ap (λ (shape : Shape). shape.height) same) x y unreached

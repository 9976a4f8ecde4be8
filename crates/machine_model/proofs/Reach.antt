-- Outside the reach of a change no colour differs, between any two desks of one shape for which all holds that always
-- holds of a desk.
use Rattle.std.proofs.Common.{◌≡◌, ℕ, false, pos}
use Rattle.desk_model.specs.Desk.{Desk}
use Rattle.desk_model.specs.DeskFacts.{IsDesk}
use Rattle.desk_model.specs.Seen.{colour}
use Rattle.machine_model.specs.Reach.{is_reached}
use Rattle.machine_model.proofs.DeskDamage.{desks_same_outside_reach}

pub colour-outside_reach : (before after : Desk) → IsDesk before → IsDesk after → before.shape ≡ after.shape → (x y : ℕ) → is_reached before after x y ≡ false → colour before x y ≡ colour after x y
unfolding is_reached colour
colour-outside_reach before after is is' same x y unreached = desks_same_outside_reach before after is is' same (pos x) (pos y) unreached

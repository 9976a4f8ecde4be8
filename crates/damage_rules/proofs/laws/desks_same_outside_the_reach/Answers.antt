use Rattle.machine_model.proofs.DeskDamage.{desks_same_outside_reach}
use Rattle.damage_rules.proofs.laws.desks_same_outside_the_reach.Goals as goal

pub returns : goal.returns
returns c = desks_same_outside_reach

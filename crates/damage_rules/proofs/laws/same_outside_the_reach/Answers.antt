use Rattle.machine_model.proofs.OutsideDamage.{same_outside_reach}
use Rattle.damage_rules.proofs.laws.same_outside_the_reach.Goals as goal

pub returns : goal.returns
returns c = same_outside_reach

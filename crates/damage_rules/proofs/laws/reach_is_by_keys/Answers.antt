use Rattle.machine_model.proofs.DamageByKeys.{reach_is_by_keys}
use Rattle.damage_rules.proofs.laws.reach_is_by_keys.Goals as goal

pub returns : goal.returns
returns c = reach_is_by_keys

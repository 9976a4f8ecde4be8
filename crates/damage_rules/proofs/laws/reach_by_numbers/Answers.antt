use Rattle.damage_rules.proofs.ByNumbers.{reach_by_numbers, nothing_of_other_numbers, reach_is_their_union}
use Rattle.damage_rules.proofs.laws.reach_by_numbers.Goals as goal

pub returns : goal.returns
returns c = record { each = reach_by_numbers; others = nothing_of_other_numbers; together = reach_is_their_union }

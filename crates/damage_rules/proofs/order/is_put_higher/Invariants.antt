use Rattle.std.proofs.Common.{◌≡◌, nat_eq, drop, false}
use Rattle.machine_model.specs.Damage.{is_over}
use Rattle.shot_core.specs.Shot.{numbers_of}
use Rattle.damage_rules.proofs.Walks.{higher_from}
use Rattle.damage_rules.proofs.order.is_put_higher.Given as goal

abbrev pub invariant-loop-other : goal.invariant-loop-other
invariant-loop-other l =
    higher_from (is_over nat_eq (numbers_of l.after) l.window) l.window l.higher (drop l.other-index (numbers_of l.before)) ≡ higher_from (is_over nat_eq (numbers_of l.after) l.window) l.window false (numbers_of l.before)

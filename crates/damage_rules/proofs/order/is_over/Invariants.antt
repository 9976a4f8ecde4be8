use Rattle.std.proofs.Common.{◌≡◌, nat_eq, drop}
use Rattle.machine_model.specs.Damage.{is_over}
use Rattle.shot_core.specs.Shot.{numbers_of}
use Rattle.damage_rules.proofs.Walks.{over_from}
use Rattle.damage_rules.proofs.order.is_over.Given as goal

abbrev pub invariant-loop-window : goal.invariant-loop-window
invariant-loop-window l = over_from l.upper l.lower l.found (drop l.window-index (numbers_of l.windows)) ≡ is_over nat_eq (numbers_of l.windows) l.upper l.lower

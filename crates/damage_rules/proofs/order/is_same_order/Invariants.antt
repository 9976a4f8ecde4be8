use Rattle.std.proofs.Common.{◌≡◌, take}
use Rattle.shot_core.specs.Shot.{numbers_of}
use Rattle.damage_rules.proofs.order.is_same_order.Given as goal

abbrev pub invariant-loop-index : goal.invariant-loop-index
invariant-loop-index l = take l.index (numbers_of l.before) ≡ take l.index (numbers_of l.after)

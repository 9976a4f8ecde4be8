use Rattle.std.proofs.Common.{arith}
use Rattle.damage_rules.proofs.Orders.{same-more}
use Rattle.damage_rules.proofs.order.is_same_order.Goals as goal

pub loop-index-preserved : goal.loop-index-preserved
loop-index-preserved c =
    same-more c.args.before.now c.args.after.now c.loop-index.index _ _ c.loop-index-test.true (omega (arith, c.loop-index-test.true, c.if-before-after.false)) c.loop-index.invariant c.if-window-after.false

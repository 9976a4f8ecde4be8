use Rattle.damage_rules.proofs.Orders.{AreHigher}
use Rattle.damage_rules.proofs.order.put_higher.Given as goal

abbrev pub invariant-loop-window : goal.invariant-loop-window
invariant-loop-window l = AreHigher l.before l.after l.window-index l.windows.items

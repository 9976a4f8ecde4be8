use Rattle.std.proofs.Common.{nat_eq, sym, ap, ◌∙◌}
use Rattle.std.specs.List.{list_any}
use Rattle.shot_core.specs.Shot.{numbers_of}
use Rattle.damage_rules.proofs.Orders.{none-higher, higher-more, higher-all}
use Rattle.damage_rules.proofs.order.put_higher.Goals as goal

pub returns-then-is_same_order : goal.returns-then-is_same_order
returns-then-is_same_order c = λ window.
    ap (list_any (nat_eq window)) c.new-windows.ensures ∙ sym (none-higher (numbers_of c.args.before.now) (numbers_of c.args.after.now) window c.requires.once c.if-is_same_order.ensures)

pub loop-window-preserved : goal.loop-window-preserved
loop-window-preserved c =
    higher-more c.args.before.now c.args.after.now c.loop-window.window-index _ c.is_put_higher.result c.loop-window.windows.items c.push_if.new.windows.items c.loop-window-test.true c.loop-window.invariant c.is_put_higher.ensures c.push_if.ensures

pub returns : goal.returns
returns c = higher-all c.args.before.now c.args.after.now c.loop-window.window-index c.loop-window.windows.items c.loop-window-test.false c.loop-window.invariant

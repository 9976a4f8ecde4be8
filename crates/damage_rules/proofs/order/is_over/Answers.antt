use Rattle.std.proofs.Common.{◌+◌, drop, sym, ap, ◌∙◌}
use Rattle.shot_core.specs.Shot.{numbers_of}
use Rattle.damage_rules.proofs.Walks.{over_from, over_stops, over_steps, over_last}
use Rattle.damage_rules.proofs.order.is_over.Goals as goal

pub returns-then-both : goal.returns-then-both
returns-then-both c =
    sym (over_stops c.args.windows.now c.loop-window.window-index _ c.args.upper c.args.lower c.loop-window.found c.loop-window-test.true (sym c.both.ensures ∙ c.if-both.true)) ∙ c.loop-window.invariant

pub loop-window-preserved : goal.loop-window-preserved
loop-window-preserved c =
    ap (λ found. over_from c.args.upper c.args.lower found (drop (c.loop-window.window-index + 1) (numbers_of c.args.windows.now))) c.either-found.ensures
    ∙ (sym (over_steps c.args.windows.now c.loop-window.window-index _ c.args.upper c.args.lower c.loop-window.found c.loop-window-test.true (sym c.both.ensures ∙ c.if-both.false)) ∙ c.loop-window.invariant)

pub returns : goal.returns
returns c =
    sym (over_last c.args.windows.now c.loop-window.window-index c.args.upper c.args.lower c.loop-window.found c.loop-window-test.false) ∙ c.loop-window.invariant

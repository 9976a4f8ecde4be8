use Rattle.std.proofs.Common.{◌+◌, ◌||◌, nat_eq, drop, sym, ap, ◌∙◌, ne_eqb}
use Rattle.machine_model.specs.Damage.{is_over}
use Rattle.shot_core.specs.Shot.{numbers_of}
use Rattle.damage_rules.specs.Areas.{is_higher_in}
use Rattle.damage_rules.proofs.Walks.{higher_from, higher_stops, higher_steps, higher_last, higher_from-start}
use Rattle.damage_rules.proofs.order.is_put_higher.Goals as goal

pub returns-then-other-window : goal.returns-then-other-window
unfolding is_higher_in
returns-then-other-window c =
    sym (higher_stops c.args.before.now c.loop-other.other-index _ (is_over nat_eq (numbers_of c.args.after.now) c.args.window) c.args.window c.loop-other.higher c.loop-other-test.true c.if-other-window.true)
    ∙ (c.loop-other.invariant ∙ higher_from-start (is_over nat_eq (numbers_of c.args.after.now) c.args.window) c.args.window (numbers_of c.args.before.now) c.requires)

pub loop-other-preserved : goal.loop-other-preserved
loop-other-preserved c =
    ap (λ higher. higher_from (is_over nat_eq (numbers_of c.args.after.now) c.args.window) c.args.window higher (drop (c.loop-other.other-index + 1) (numbers_of c.args.before.now))) (c.either-higher.ensures ∙ ap (λ b. c.loop-other.higher || b) c.is_over.ensures)
    ∙ (sym (higher_steps c.args.before.now c.loop-other.other-index _ (is_over nat_eq (numbers_of c.args.after.now) c.args.window) c.args.window c.loop-other.higher c.loop-other-test.true (ne_eqb _ _ c.if-other-window.false)) ∙ c.loop-other.invariant)

pub returns : goal.returns
unfolding is_higher_in
returns c =
    sym (higher_last c.args.before.now c.loop-other.other-index (is_over nat_eq (numbers_of c.args.after.now) c.args.window) c.args.window c.loop-other.higher c.loop-other-test.false)
    ∙ (c.loop-other.invariant ∙ higher_from-start (is_over nat_eq (numbers_of c.args.after.now) c.args.window) c.args.window (numbers_of c.args.before.now) c.requires)

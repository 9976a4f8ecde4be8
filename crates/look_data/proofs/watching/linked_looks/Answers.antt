use Rattle.std.proofs.Common.{arith, map}
use Rattle.look_data.specs.Kept.{kept_in}
use Rattle.look_data.specs.Looks.{seen_one}
use Rattle.look_data.specs.Watched.{is_linked_to}
use Rattle.look_data.proofs.LinkedNumbers.{client-in-range, linked-within}
use Rattle.look_data.proofs.LooksLemmas.{passing-more, passing-all}
use Rattle.look_data.proofs.watching.linked_looks.Goals as goal

pub first_number-first-requires-clause-low : goal.first_number-first-requires-clause-low
first_number-first-requires-clause-low c = (client-in-range c.args.view.now.tree.now c.args.variable.key c.owner.result c.requires.widgets c.owner.ensures.owner).0

pub first_number-first-requires-clause-high : goal.first_number-first-requires-clause-high
first_number-first-requires-clause-high c = (client-in-range c.args.view.now.tree.now c.args.variable.key c.owner.result c.requires.widgets c.owner.ensures.owner).1

pub loop-k-preserved : goal.loop-k-preserved
loop-k-preserved c = record {
  few = omega (arith, c.loop-k.invariant.few, c.put_linked.ensures.few);
  looks = passing-more (is_linked_to c.args.view.now.tree.now c.args.variable.key) (kept_in c.args.view.now) c.first_number-first.result c.loop-k.k (map seen_one c.loop-k.looks.items) (map seen_one c.put_linked.new.looks.items) c.loop-k.invariant.looks c.put_linked.ensures.look;
}

pub returns : goal.returns
returns c =
    passing-all (is_linked_to c.args.view.now.tree.now c.args.variable.key) (kept_in c.args.view.now) c.first_number-first.result c.loop-k.k (map seen_one c.loop-k.looks.items)
    (λ id. linked-within c.args.view.now.tree.now c.args.variable.key c.owner.result c.first_number-first.result c.loop-k.k id c.requires.widgets c.owner.ensures.owner c.first_number-first.ensures.first (omega arith))
    c.loop-k.invariant.looks

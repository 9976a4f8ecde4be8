use Rattle.std.proofs.Common.{ℕ, sym, subst}
use Rattle.scene_core.specs.Children.{IsDeep}
use Rattle.scene_core.proofs.LeastSteps.{known-none, deep-all}
use Rattle.scene_core.proofs.Measures.{size-there}
use Rattle.scene_core.proofs.least.least_size.Goals as goal

pub least-requires-clause-deep : goal.least-requires-clause-deep
least-requires-clause-deep c = subst (λ (n : ℕ). IsDeep c.args.tree.now n c.args.id.key) (sym c.most_levels.ensures) (deep-all c.args.tree.now c.args.id.key)

pub least-requires-clause-known : goal.least-requires-clause-known
least-requires-clause-known c = known-none c.args.tree.now c.new-known.result c.new-known.ensures.sizes c.new-known.ensures.tracks

pub returns : goal.returns
returns c = size-there c.args.tree.now c.args.id.key c.least.result c.requires.live c.least.ensures.size

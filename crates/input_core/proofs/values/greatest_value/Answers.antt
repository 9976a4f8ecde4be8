use Rattle.std.proofs.Common.{arith}
use Rattle.input_core.proofs.Limits.{max_most, real_most}
use Rattle.input_core.proofs.values.greatest_value.Goals as goal

pub returns-in-Scrollbar-clause-most : goal.returns-in-Scrollbar-clause-most
returns-in-Scrollbar-clause-most c =
    omega (arith, c.saturating_sub.ensures, c.count-real.ensures, real_most c.args.tree.now c.args.id.key c.requires.widgets c.requires.live)

pub returns-in_default-clause-most : goal.returns-in_default-clause-most
returns-in_default-clause-most c = omega (arith, c.count.ensures, max_most c.args.tree.now c.args.id.key c.requires.widgets c.requires.live)

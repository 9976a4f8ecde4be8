use Rattle.std.proofs.Common.{is_ok}
use Rattle.tree_core.proofs.TreeKept.{IsTree-joined}
use Rattle.tree_core.proofs.tree.Tree.join_client.Goals as goal

pub invariant_of-self-2 : goal.invariant_of-self-2
invariant_of-self-2 c =
    rw c.push.ensures.items (IsTree-joined c.self.invariant (is_ok c.push.result) c.grow.new.self c.grow-2.new.self c.args.client c.requires.low c.requires.high c.grow.ensures.kept c.grow.ensures.longer c.in-Ok.ensures.reach c.grow-2.ensures.slots c.grow-2.ensures.longer c.in-Ok-grow.ensures.reach)

pub returns-clause-valid : goal.returns-clause-valid
returns-clause-valid c =
    rw c.push.ensures.items (IsTree-joined c.self.invariant (is_ok c.push.result) c.grow.new.self c.grow-2.new.self c.args.client c.requires.low c.requires.high c.grow.ensures.kept c.grow.ensures.longer c.in-Ok.ensures.reach c.grow-2.ensures.slots c.grow-2.ensures.longer c.in-Ok-grow.ensures.reach).widgets

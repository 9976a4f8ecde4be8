use Rattle.tree_core.proofs.TreeKept.{IsTree-none}
use Rattle.tree_core.proofs.tree.Tree.new.Goals as goal

pub invariant_of-result : goal.invariant_of-result
invariant_of-result c = rw (c.new.ensures.items, c.new-2.ensures, c.new-3.ensures, c.new-4.ensures, c.new-5.ensures) (IsTree-none c.new-6.result c.new-6.ensures.slots)

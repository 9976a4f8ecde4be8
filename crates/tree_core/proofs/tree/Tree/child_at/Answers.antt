use Rattle.std.proofs.Common.{sym}
use Rattle.tree_core.proofs.Parents.{child_id-live}
use Rattle.tree_core.proofs.TreeKept.{IsGrove-tree}
use Rattle.tree_core.proofs.tree.Tree.child_at.Goals as goal

pub returns-in-Some-clause-live : goal.returns-in-Some-clause-live
returns-in-Some-clause-live c =
    let live = child_id-live c.self.inside.store c.args.id.key c.args.column c.args.row c.in-Some.key (IsGrove-tree c.self.invariant) (sym c.in-Some.ensures) in
    rw (← c.self.view_is) live

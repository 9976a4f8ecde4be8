use Rattle.tree_core.proofs.Parents.{root_id-live}
use Rattle.tree_core.proofs.tree.Tree.root.Goals as goal

pub returns-clause-live : goal.returns-clause-live
returns-clause-live c =
    let live = root_id-live c.self.inside.store c.args.id.key c.root_number-key.result c.root_number-key.ensures in
    rw (← c.self.view_is) live

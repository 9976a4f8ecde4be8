use Rattle.std.proofs.Common.{sym}
use Rattle.widget_model.proofs.Naming.{row_at-named}
use Rattle.tree_core.proofs.tree.Tree.find.Goals as goal

pub returns-in-Some-clause-live : goal.returns-in-Some-clause-live
returns-in-Some-clause-live c =
    let live = row_at-named c.self.inside.store c.args.client c.args.name.now c.in-Some.key (sym c.in-Some.ensures) in
    rw (← c.self.view_is) live

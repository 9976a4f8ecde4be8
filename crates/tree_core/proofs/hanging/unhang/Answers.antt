use Rattle.widget_model.specs.Widgets.{row_at}
use Rattle.row_store.proofs.Options.{none_or_some}
use Rattle.tree_core.proofs.Groves.{IsGrove-unhang}
use Rattle.tree_core.proofs.hanging.unhang.Goals as goal

pub returns-clause-grove : goal.returns-clause-grove
returns-clause-grove c =
    let found = none_or_some (row_at c.args.store.now c.args.child) c.requires.child in
    rw c.change.ensures (IsGrove-unhang c.args.store.now c.args.child found.0 c.requires.grove found.1)

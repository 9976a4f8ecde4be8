use Rattle.std.proofs.Common.{Some}
use Rattle.widget_model.specs.Widgets.{row_at}
use Rattle.row_store.proofs.Options.{none_or_some}
use Rattle.tree_core.proofs.Children.{takes_cell-index}
use Rattle.tree_core.proofs.Groves.{MayHang-answer, MayHang-CanHang, IsGrove-hang}
use Rattle.tree_core.proofs.Moves.{HasChildren-put, IsPutIn-hang}
use Rattle.tree_core.proofs.hanging.hang.Goals as goal

pub returns-clause-grove : goal.returns-clause-grove
returns-clause-grove c =
    let found = none_or_some (row_at c.args.store.now c.args.child) c.requires.child in
    let may = MayHang-answer c.args.store.now c.args.parent c.args.child c.args.cell c.row.result.now found.0 c.row.ensures found.1 c.requires.owner c.requires.cell c.requires.answer in
    rw (c.change.ensures, c.name-name.ensures) (IsGrove-hang c.args.store.now c.args.parent c.args.child c.args.cell c.row.result.now found.0 c.requires.grove may)

pub returns-clause-children : goal.returns-clause-children
returns-clause-children c =
    let found = none_or_some (row_at c.args.store.now c.args.child) c.requires.child in
    let may = MayHang-answer c.args.store.now c.args.parent c.args.child c.args.cell c.row.result.now found.0 c.row.ensures found.1 c.requires.owner c.requires.cell c.requires.answer in
    let can = MayHang-CanHang c.args.store.now c.args.parent c.args.child c.args.cell c.row.result.now found.0 c.requires.grove may in
    let index = takes_cell-index c.row.result.now.kind c.args.cell may.takes in
    rw (c.put.ensures, c.change.ensures, c.name-name.ensures) (HasChildren-put c.args.store.now _ c.args.cells.now c.args.parent c.row.result.now c.args.cell (Some c.args.child) c.requires.grove c.requires.children c.row.ensures index.0 index.1 c.requires.within (IsPutIn-hang c.args.store.now c.args.child c.row.result.now found.0 c.args.cell c.requires.grove found.1 may.owner can))

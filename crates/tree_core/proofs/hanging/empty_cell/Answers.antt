use Rattle.std.proofs.Common.{◌≡◌, None, is_some, sym, ap, ◌∙◌}
use Rattle.std.proofs.lemmas.Bool.{true≢false}
use Rattle.widget_model.specs.Relatives.{parent_id}
use Rattle.tree_core.specs.Children.{widgets_in}
use Rattle.tree_core.proofs.Parents.{parent_id-there, TakesOut-parent, HasChildren-alone}
use Rattle.tree_core.proofs.hanging.empty_cell.Goals as goal

pub put-requires-clause-column : goal.put-requires-clause-column
put-requires-clause-column c = (TakesOut-parent c.args.store.now c.args.cells.now c.args.child c.row.result.now c.in-Some.field-0-0 c.in-Some.cell c.in-Some-parent_number.parent c.requires.grove c.requires.children c.row.ensures (sym c.attached.ensures ∙ c.in-Some.is) (sym c.parent_number.ensures ∙ c.in-Some-parent_number.is)).column

pub put-requires-clause-line : goal.put-requires-clause-line
put-requires-clause-line c = (TakesOut-parent c.args.store.now c.args.cells.now c.args.child c.row.result.now c.in-Some.field-0-0 c.in-Some.cell c.in-Some-parent_number.parent c.requires.grove c.requires.children c.row.ensures (sym c.attached.ensures ∙ c.in-Some.is) (sym c.parent_number.ensures ∙ c.in-Some-parent_number.is)).line

pub put-requires-clause-within : goal.put-requires-clause-within
put-requires-clause-within c = (TakesOut-parent c.args.store.now c.args.cells.now c.args.child c.row.result.now c.in-Some.field-0-0 c.in-Some.cell c.in-Some-parent_number.parent c.requires.grove c.requires.children c.row.ensures (sym c.attached.ensures ∙ c.in-Some.is) (sym c.parent_number.ensures ∙ c.in-Some-parent_number.is)).within

pub returns-in-Some-parent_number-clause-children : goal.returns-in-Some-parent_number-clause-children
returns-in-Some-parent_number-clause-children c =
    rw c.put.ensures (TakesOut-parent c.args.store.now c.args.cells.now c.args.child c.row.result.now c.in-Some.field-0-0 c.in-Some.cell c.in-Some-parent_number.parent c.requires.grove c.requires.children c.row.ensures (sym c.attached.ensures ∙ c.in-Some.is) (sym c.parent_number.ensures ∙ c.in-Some-parent_number.is)).children

pub returns-in-None-parent_number-clause-children : goal.returns-in-None-parent_number-clause-children
returns-in-None-parent_number-clause-children c =
    let there = parent_id-there c.args.store.now c.args.child c.row.result.now c.in-Some.field-0-0 c.in-Some.cell c.requires.grove c.row.ensures (sym c.attached.ensures ∙ c.in-Some.is) in
    let none : parent_id (widgets_in c.args.store.now) c.args.child ≡ None = sym c.parent_number.ensures ∙ c.in-None-parent_number.is in
    absurd (true≢false (sym there ∙ ap is_some none))

pub returns-in-None-clause-children : goal.returns-in-None-clause-children
returns-in-None-clause-children c = HasChildren-alone c.args.store.now c.args.cells.now c.args.child c.row.result.now c.requires.grove c.requires.children c.row.ensures (sym c.attached.ensures ∙ c.in-None.is)

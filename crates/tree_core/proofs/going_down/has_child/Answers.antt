use Rattle.std.proofs.Common.{◌≡◌, ◌<◌, Some, true, is_some, sym, ap, ◌∙◌, arith}
use Rattle.std.specs.List.{list_any}
use Rattle.std.specs.Option.{option_map}
use Rattle.widget_model.specs.Rows.{Row}
use Rattle.widget_model.specs.Trees.{is_child}
use Rattle.widget_model.specs.Widgets.{rows_in}
use Rattle.tree_core.specs.Children.{cells_of}
use Rattle.row_store.proofs.Options.{none_or_some}
use Rattle.tree_core.proofs.Downward.{any-child, no-child}
use Rattle.tree_core.proofs.going_down.has_child.Goals as goal

pub returns-then-is_some : goal.returns-then-is_some
returns-then-is_some c =
    let some : is_some c.nth.result ≡ true = sym c.is_some.ensures ∙ c.if-is_some.true in
    let found = none_or_some c.nth.result some in
    let less : c.loop-index.index < 256 = omega (arith, c.cells_of-index-end.ensures.within) in
    ap (option_map (λ (row : Row). list_any (is_child row.client row.name) (rows_in c.args.store.now))) c.row.ensures
    ∙ ap Some (any-child c.args.store.now c.args.cells.now c.args.id c.loop-index.index found.0 c.row.result.now c.requires.grove c.requires.children c.row.ensures less (sym c.nth.ensures ∙ found.1))

pub returns : goal.returns
returns c =
    let count : c.cells_of-index-end.result ≡ cells_of c.row.result.now.kind = c.cells_of-index-end.ensures.count ∙ ap cells_of c.kind.ensures in
    ap (option_map (λ (row : Row). list_any (is_child row.client row.name) (rows_in c.args.store.now))) c.row.ensures
    ∙ ap Some (no-child c.args.store.now c.args.cells.now c.args.id c.row.result.now c.requires.grove c.requires.children c.row.ensures (λ k less. c.loop-index.invariant k (omega arith)))

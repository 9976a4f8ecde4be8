use Rattle.std.proofs.Common.{rules, ◌≡◌, ◌≤◌, ◌+◌, ℕ, false, Option, None, Some, sym, ap, ◌∙◌, arith}
use Rattle.std.proofs.lemmas.Bool.{le-ltb}
use Rattle.std.specs.Option.{option_map, option_map_or}
use Rattle.kind_core.specs.declared.kinds.Kind.{Kind}
use Rattle.widget_model.specs.Rows.{Row}
use Rattle.widget_model.specs.Relatives.{child_id}
use Rattle.widget_model.specs.Planted.{takes_cell}
use Rattle.widget_model.specs.Trees.{height_in, depth_of, height_of, most_levels}
use Rattle.widget_model.specs.Widgets.{rows_in}
use Rattle.tree_core.specs.Children.{widgets_in}
use Rattle.tree_core.proofs.Children.{child_in-free, takes_cell-index}
use Rattle.row_store.proofs.Options.{is_none_of}
use Rattle.tree_core.proofs.Groves.{attach_answer-none}
use Rattle.tree_core.proofs.hanging.attach_refusal.Goals as goal

pub returns : goal.returns
returns c =
    let rows = rows_in c.args.store.now in
    let upper = c.row-upper.result.now in
    let lower = c.row-lower.result.now in
    let takes = ap (λ (o : Option Row). option_map_or (λ (kind : Kind). takes_cell kind c.args.cell) (option_map (λ (row : Row). row.kind) o) false) (sym c.row-upper.ensures) ∙ c.requires.cell in
    let index = takes_cell-index upper.kind c.args.cell takes in
    let empty : child_id (widgets_in c.args.store.now) c.args.parent c.args.cell.column c.args.cell.row ≡ None = sym (c.requires.children.each c.args.parent c.args.cell.column c.args.cell.row index.0 index.1) ∙ sym c.at.ensures ∙ is_none_of c.at.result (sym c.is_some.ensures ∙ c.if-is_some.false) in
    let free = child_in-free c.args.store.now c.args.parent c.args.cell.column c.args.cell.row upper c.requires.grove c.row-upper.ensures empty in
    let depth : c.depth_in-depth.result ≡ depth_of rows upper.client upper.name = search rules in
    let high : Some (height_in c.most_levels-most.result rows lower.client lower.name) ≡ Some c.height_in.result = ap (option_map (λ (row : Row). height_in c.most_levels-most.result rows row.client row.name)) (sym c.row-lower.ensures) ∙ c.height_in.ensures.height in
    let height : height_in most_levels rows lower.client lower.name ≡ c.height_in.result = ap (λ (n : ℕ). height_in n rows lower.client lower.name) (sym c.most_levels-most.ensures.most) ∙ (cc) in
    let low : depth_of rows upper.client upper.name + height_of rows lower.client lower.name ≤ most_levels = omega (arith, depth, height, c.if-depth-height_in.false, c.most_levels-most.ensures.most) in
    attach_answer-none c.args.store.now c.args.parent c.args.child c.args.cell upper lower c.row-upper.ensures c.row-lower.ensures (search rules) (search rules) (search rules) (le-ltb most_levels (depth_of rows upper.client upper.name + height_of rows lower.client lower.name) low) free

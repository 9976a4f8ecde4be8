use Rattle.std.proofs.Common.{◌≡◌, is_some, sym, ap, ◌∙◌}
use Rattle.std.specs.Option.{option_and_then}
use Rattle.widget_model.specs.Rows.{Row}
use Rattle.widget_model.specs.Nodes.{id_named}
use Rattle.widget_model.specs.Trees.{root_in, root_of, most_levels}
use Rattle.widget_model.specs.Widgets.{nodes}
use Rattle.widget_model.specs.Widgets.{rows_in}
use Rattle.tree_core.proofs.Ways.{root-numbered}
use Rattle.tree_core.proofs.going_up.root_number.Goals as goal

pub unwrap-requires : goal.unwrap-requires
unwrap-requires c =
    let named : c.number_of.result ≡ id_named (nodes c.args.store.now) c.row-row.result.now.client (root_in c.most_levels.result (rows_in c.args.store.now) c.row-row.result.now.client c.row-row.result.now.name) = cc in
    ap is_some named ∙ root-numbered c.most_levels.result c.args.store.now c.args.id c.row-row.result.now c.requires.grove c.row-row.ensures

pub returns : goal.returns
returns c =
    let named : c.number_of.result ≡ id_named (nodes c.args.store.now) c.row-row.result.now.client (root_in c.most_levels.result (rows_in c.args.store.now) c.row-row.result.now.client c.row-row.result.now.name) = cc in
    let most : id_named (nodes c.args.store.now) c.row-row.result.now.client (root_in c.most_levels.result (rows_in c.args.store.now) c.row-row.result.now.client c.row-row.result.now.name) ≡ id_named (nodes c.args.store.now) c.row-row.result.now.client (root_in most_levels (rows_in c.args.store.now) c.row-row.result.now.client c.row-row.result.now.name) = cc in
    ap (option_and_then (λ (row : Row). id_named (nodes c.args.store.now) row.client (root_of (rows_in c.args.store.now) row.client row.name))) c.row-row.ensures ∙ sym most ∙ sym named ∙ c.unwrap.ensures

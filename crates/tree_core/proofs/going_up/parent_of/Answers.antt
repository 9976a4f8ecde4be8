use Rattle.std.proofs.Common.{rules, sym, ◌∙◌}
use Rattle.widget_model.proofs.Naming.{row_at-named}
use Rattle.tree_core.proofs.Ways.{parent_of-found, parent_of-none}
use Rattle.tree_core.proofs.going_up.parent_of.Goals as goal

pub row-requires : goal.row-requires
row-requires c = row_at-named c.args.store.now c.args.client c.args.name.now c.in-Some.id (sym c.number_of.ensures ∙ c.in-Some.is)

pub returns-in-Some-attached : goal.returns-in-Some-attached
returns-in-Some-attached c =
    let way = parent_of-found c.args.store.now c.args.client c.args.name.now c.in-Some.id c.row.result.now c.requires.grove (sym c.number_of.ensures ∙ c.in-Some.is) c.row.ensures in
    rw way (search rules)

pub returns-in-None-attached : goal.returns-in-None-attached
returns-in-None-attached c =
    let way = parent_of-found c.args.store.now c.args.client c.args.name.now c.in-Some.id c.row.result.now c.requires.grove (sym c.number_of.ensures ∙ c.in-Some.is) c.row.ensures in
    rw way (search rules)

pub returns-in-None : goal.returns-in-None
returns-in-None c = sym (parent_of-none c.args.store.now c.args.client c.args.name.now (sym c.number_of.ensures ∙ c.in-None.is))

use Rattle.std.proofs.Common.{is_some, sym, ap, ◌∙◌}
use Rattle.widget_model.specs.Widgets.{Widgets, row_client, departed}
use Rattle.tree_core.specs.Kept.{IsTree}
use Rattle.tree_core.proofs.ForestLemmas.{rows-departed}
use Rattle.tree_core.proofs.TreeKept.{live_row, live-departed, member, IsTree-departed}
use Rattle.tree_core.proofs.tree.Tree.drop_client.Goals as goal
use Rattle.tree_core.proofs.tree.Tree.drop_client.Goals.{After-clear-2}

pub drop_rows-requires-clause-low : goal.drop_rows-requires-clause-low
drop_rows-requires-clause-low c = (member c.self.invariant c.self.view_is c.args.client c.requires).low

pub drop_rows-requires-clause-high : goal.drop_rows-requires-clause-high
drop_rows-requires-clause-high c = (member c.self.invariant c.self.view_is c.args.client c.requires).high

pub clear-requires-clause-low : goal.clear-requires-clause-low
clear-requires-clause-low c = (member c.self.invariant c.self.view_is c.args.client c.requires).low

pub clear-requires-clause-high : goal.clear-requires-clause-high
clear-requires-clause-high c = (member c.self.invariant c.self.view_is c.args.client c.requires).high

pub clear-requires-2-clause-low : goal.clear-requires-2-clause-low
clear-requires-2-clause-low c = (member c.self.invariant c.self.view_is c.args.client c.requires).low

pub clear-requires-2-clause-high : goal.clear-requires-2-clause-high
clear-requires-2-clause-high c = (member c.self.invariant c.self.view_is c.args.client c.requires).high

pub clear-requires-2-clause-made : goal.clear-requires-2-clause-made
clear-requires-2-clause-made c = c.self.invariant.made c.args.client (member c.self.invariant c.self.view_is c.args.client c.requires).joined

pub forget-requires : goal.forget-requires
forget-requires c = (member c.self.invariant c.self.view_is c.args.client c.requires).below

kept : (c : After-clear-2) → IsTree (record { clients = c.drop_number.new.clients.items; names = c.drop_names.new.names; entries = c.drop_rows.new.store; cells = c.clear.new.self; counts = c.forget.new.self; kept = c.clear-2.new.self })
kept c =
    let joined = member c.self.invariant c.self.view_is c.args.client c.requires in
    rw (c.drop_number.ensures, c.drop_names.ensures, c.drop_rows.ensures, c.forget.ensures, rows-departed c.self.inside.store c.args.client joined.low c.self.invariant.widgets.numbered.numbers)
    (IsTree-departed c.self.invariant c.clear.new.self c.clear-2.new.self c.args.client joined.low joined.below (record { inside = c.clear.ensures.empty; under = c.clear.ensures.below; above = c.clear.ensures.above; len = c.clear.ensures.length }) c.clear-2.ensures.slots c.clear-2.ensures.made)

pub invariant_of-self : goal.invariant_of-self
invariant_of-self c = kept (goal.at.invariant_of-self c).After-clear-2

pub returns-clause-valid : goal.returns-clause-valid
returns-clause-valid c = (kept (goal.at.returns-clause-valid c).After-clear-2).widgets

pub returns-clause-left : goal.returns-clause-left
returns-clause-left c =
    let joined = member c.self.invariant c.self.view_is c.args.client c.requires in
    rw (c.drop_number.ensures, c.drop_rows.ensures, c.clear-2.ensures.slots, rows-departed c.self.inside.store c.args.client joined.low c.self.invariant.widgets.numbered.numbers) (ap (departed c.args.client) c.self.view_is)

pub returns-clause-others : goal.returns-clause-others
returns-clause-others c = λ other live apart.
    let joined = member c.self.invariant c.self.view_is c.args.client c.requires in
    let found = live_row c.self.view_is other live in
    rw (c.drop_rows.ensures, rows-departed c.self.inside.store c.args.client joined.low c.self.invariant.widgets.numbered.numbers) (live-departed c.self.inside.store c.args.client other c.self.invariant.widgets.numbered.own_numbers (ap is_some found.1) (λ same. apart (ap (λ (w : Widgets). row_client w.entries other) (sym c.self.view_is) ∙ same)))

use Rattle.std.proofs.Common.{ℕ, List, None, subst}
use Rattle.widget_model.specs.Rows.{Row}
use Rattle.tree_core.specs.Children.{HasChildren}
use Rattle.tree_core.specs.Kept.{IsGrove, IsTree}
use Rattle.tree_core.proofs.TreeKept.{live_row, live_edited, IsTree-attached}
use Rattle.tree_core.proofs.tree.Tree.detach.Goals as goal
use Rattle.tree_core.proofs.tree.Tree.detach.Goals.{After-unhang}

kept : (c : After-unhang) → IsTree (record { clients = c.self.inside.clients.items; names = c.self.inside.names; entries = c.unhang.new.store; cells = c.unhang.new.cells; counts = c.self.inside.counts; kept = c.self.inside.places })
kept c =
    let found = live_row c.self.view_is c.args.child.key c.requires in
    let G : List (ℕ × Row) → Type 0 = λ es. IsGrove es in
    let H : List (ℕ × Row) → Type 0 = λ es. HasChildren es c.unhang.new.cells in
    rw c.unhang.ensures.rows (IsTree-attached c.self.invariant c.args.child.key found.0 found.1 None c.unhang.new.cells (subst G c.unhang.ensures.rows c.unhang.ensures.grove) (subst H c.unhang.ensures.rows c.unhang.ensures.children) c.unhang.ensures.length)

pub invariant_of-self : goal.invariant_of-self
invariant_of-self c = kept (goal.at.invariant_of-self c).After-unhang

pub returns-clause-valid : goal.returns-clause-valid
returns-clause-valid c = (kept (goal.at.returns-clause-valid c).After-unhang).widgets

pub returns-clause-kept : goal.returns-clause-kept
returns-clause-kept c = λ other live. rw c.unhang.ensures.rows (live_edited c.self.view_is c.args.child.key _ other live)

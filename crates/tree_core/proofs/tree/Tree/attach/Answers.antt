use Rattle.std.proofs.Common.{◌≡◌, ℕ, List, Option, true, false, sym, ap, ◌∙◌, subst}
use Rattle.std.specs.Option.{option_map, option_map_or}
use Rattle.kind_core.specs.declared.kinds.Kind.{Kind}
use Rattle.widget_model.specs.Rows.{Row}
use Rattle.widget_model.specs.Links.{name_at}
use Rattle.widget_model.specs.Planted.{takes_cell}
use Rattle.widget_model.specs.Widgets.{Widgets, row_kind}
use Rattle.tree_core.specs.Children.{HasChildren}
use Rattle.tree_core.specs.Kept.{IsGrove, IsTree}
use Rattle.tree_core.proofs.Children.{takes_cell-index}
use Rattle.tree_core.proofs.TreeKept.{live_row, live_edited, place_within, IsTree-attached}
use Rattle.tree_core.proofs.tree.Tree.attach.Goals as goal
use Rattle.tree_core.proofs.tree.Tree.attach.Goals.{After-hang}

pub hang-requires-clause-within : goal.hang-requires-clause-within
hang-requires-clause-within c =
    let found = live_row c.self.view_is c.args.parent.key c.requires.parent in
    let K : Widgets → Type 0 = λ w. option_map_or (λ (kind : Kind). takes_cell kind c.args.cell) (row_kind w.entries c.args.parent.key) false ≡ true in
    let kind : option_map_or (λ (kind : Kind). takes_cell kind c.args.cell) (row_kind c.self.inside.store c.args.parent.key) false ≡ true = subst K (sym c.self.view_is) c.requires.cell in
    let takes = ap (λ (o : Option Row). option_map_or (λ (kind : Kind). takes_cell kind c.args.cell) (option_map (λ (row : Row). row.kind) o) false) (sym found.1) ∙ kind in
    let index = takes_cell-index (found.0).kind c.args.cell takes in
    place_within c.self.invariant c.args.parent.key found.0 c.args.cell.column c.args.cell.row found.1 index.0 index.1

kept : (c : After-hang) → IsTree (record { clients = c.self.inside.clients.items; names = c.self.inside.names; entries = c.hang.new.store; cells = c.hang.new.cells; counts = c.self.inside.counts; kept = c.self.inside.places })
kept c =
    let found = live_row c.self.view_is c.args.child.key c.requires.child in
    let G : List (ℕ × Row) → Type 0 = λ es. IsGrove es in
    let H : List (ℕ × Row) → Type 0 = λ es. HasChildren es c.hang.new.cells in
    let attached = option_map (λ (name : List ℕ). (name, c.args.cell)) (name_at c.self.inside.store c.args.parent.key) in
    rw c.hang.ensures.rows (IsTree-attached c.self.invariant c.args.child.key found.0 found.1 attached c.hang.new.cells (subst G c.hang.ensures.rows c.hang.ensures.grove) (subst H c.hang.ensures.rows c.hang.ensures.children) c.hang.ensures.length)

pub invariant_of-self : goal.invariant_of-self
invariant_of-self c = kept (goal.at.invariant_of-self c).After-hang

pub returns-clause-valid : goal.returns-clause-valid
returns-clause-valid c = (kept (goal.at.returns-clause-valid c).After-hang).widgets

pub returns-clause-kept : goal.returns-clause-kept
returns-clause-kept c = λ other live. rw c.hang.ensures.rows (live_edited c.self.view_is c.args.child.key _ other live)

use Rattle.std.proofs.Common.{◌≡◌, ℕ, List, true, Option, Some, None, IsSome, IfSome, refl, sym, ap, ◌∙◌, subst}
use Rattle.std.specs.Option.{option_map, option_map_or, option_and_then}
use Rattle.kind_core.specs.declared.kinds.Kind.TheVariants.{Variable}
use Rattle.widget_model.specs.Rows.{Row, with_link}
use Rattle.widget_model.specs.Kinds.{is_variable_kind}
use Rattle.widget_model.specs.Named.{row_named, is_kind_of, AreNamedApart}
use Rattle.widget_model.specs.Widgets.{Widgets, nodes, row_at, row_kind, row_client, rows_in}
use Rattle.widget_model.specs.Links.{name_at}
use Rattle.widget_model.specs.RowFacts.{links_right}
use Rattle.widget_model.specs.Forest.{HaveOwnNumbers}
use Rattle.tree_core.specs.declared.id.Id.{Id}
use Rattle.tree_core.specs.Kept.{IsTree}
use Rattle.tree_core.proofs.Listed.{row_named-row}
use Rattle.tree_core.proofs.TreeKept.{live_row, live_edited, IsTree-link}
use Rattle.tree_core.proofs.tree.Tree.set_link.Goals as goal
use Rattle.tree_core.proofs.tree.Tree.set_link.Goals.{After-change}

-- the name of a Variable of its client leads the row to a Variable
leads_to : (es : List (ℕ × Row)) (id : ℕ) (row : Row) → HaveOwnNumbers (nodes es) → AreNamedApart (rows_in es) → row_client es id ≡ Some row.client → (o : Option Id) → IfSome o (λ (v : Id). row_kind es v.key ≡ Some Variable) → IfSome o (λ (v : Id). row_client es v.key ≡ row_client es id) → links_right (rows_in es) (with_link (option_and_then (λ (v : Id). name_at es v.key) o) row) ≡ true
leads_to es id row numbers names mine None kind owner = refl
leads_to es id row numbers names mine (Some v) kind owner = by (row_at es v.key) refl kind (owner ∙ mine)
  where
    by : (o : Option Row) → row_at es v.key ≡ o → option_map (λ (r : Row). r.kind) o ≡ Some Variable → option_map (λ (r : Row). r.client) o ≡ Some row.client → option_map_or (λ (name : List ℕ). is_kind_of is_variable_kind (row_named (rows_in es) row.client name)) (option_map (λ (r : Row). r.name) o) true ≡ true
    by None p kind owner = absurd (cc)
    by (Some other) p kind owner =
        let same : other.client ≡ row.client = cc in
        let is : other.kind ≡ Variable = cc in
        let found : row_named (rows_in es) row.client other.name ≡ Some other = rw (← same) (row_named-row es v.key other numbers names p) in
        ap (is_kind_of is_variable_kind) found ∙ ap is_variable_kind is

live_by_kind : (es : List (ℕ × Row)) (o : Option Id) → IfSome o (λ (v : Id). row_kind es v.key ≡ Some Variable) → IfSome o (λ (v : Id). IsSome (row_at es v.key))
live_by_kind es None h = tt
live_by_kind es (Some v) h = by (row_at es v.key) h
  where
    by : (o : Option Row) → option_map (λ (r : Row). r.kind) o ≡ Some Variable → IsSome o
    by None h = absurd (cc)
    by (Some row) h = refl

pub name_of-name-requires : goal.name_of-name-requires
name_of-name-requires c =
    let K : Widgets → Type 0 = λ w. IfSome c.args.variable (λ (v : Id). row_kind w.entries v.key ≡ Some Variable) in
    live_by_kind c.self.inside.store c.args.variable (subst K (sym c.self.view_is) c.requires.variable)

kept : (c : After-change) → IsTree (record { clients = c.self.inside.clients.items; names = c.self.inside.names; entries = c.change.new.self; cells = c.self.inside.cells; counts = c.self.inside.counts; kept = c.self.inside.places })
kept c =
    let es = c.self.inside.store in
    let K : Widgets → Type 0 = λ w. IfSome c.args.variable (λ (v : Id). row_kind w.entries v.key ≡ Some Variable) in
    let O : Widgets → Type 0 = λ w. IfSome c.args.variable (λ (v : Id). row_client w.entries v.key ≡ row_client w.entries c.args.id.key) in
    let kind : IfSome c.args.variable (λ (v : Id). row_kind es v.key ≡ Some Variable) = subst K (sym c.self.view_is) c.requires.variable in
    let owner : IfSome c.args.variable (λ (v : Id). row_client es v.key ≡ row_client es c.args.id.key) = subst O (sym c.self.view_is) c.requires.owner in
    let found = live_row c.self.view_is c.args.id.key c.requires.live in
    let own : row_client es c.args.id.key ≡ Some (found.0).client = ap (option_map (λ (r : Row). r.client)) found.1 in
    let new : links_right (rows_in es) (with_link c.name_of-name.result found.0) ≡ true = rw c.name_of-name.ensures (leads_to es c.args.id.key found.0 c.self.invariant.widgets.numbered.own_numbers c.self.invariant.widgets.rows.names own c.args.variable kind owner) in
    rw c.change.ensures (IsTree-link c.self.invariant c.args.id.key found.0 found.1 c.name_of-name.result new)

pub invariant_of-self : goal.invariant_of-self
invariant_of-self c = kept (goal.at.invariant_of-self c).After-change

pub returns-clause-valid : goal.returns-clause-valid
returns-clause-valid c = (kept (goal.at.returns-clause-valid c).After-change).widgets

pub returns-clause-kept : goal.returns-clause-kept
returns-clause-kept c = λ other live. rw c.change.ensures (live_edited c.self.view_is c.args.id.key _ other live)

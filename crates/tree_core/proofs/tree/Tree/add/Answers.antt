use Rattle.std.proofs.Common.{◌≡◌, ℕ, List, None, is_ok, is_some, true, sym, ap, ◌∙◌, subst}
use Rattle.widget_model.specs.Rows.{Row, new_row}
use Rattle.widget_model.specs.Nodes.{id_named}
use Rattle.widget_model.specs.Named.{row_named}
use Rattle.widget_model.specs.Widgets.{Widgets, nodes, rows_in, row_at}
use Rattle.row_store.specs.Index.{IsIndexed}
use Rattle.row_store.specs.Counts.{AreCounts}
use Rattle.tree_core.specs.Kept.{IsTree}
use Rattle.row_store.proofs.Options.{is_none_of}
use Rattle.tree_core.proofs.Listed.{named_live}
use Rattle.tree_core.proofs.ForestLemmas.{no_refusal, live-maybe_push, live-last}
use Rattle.tree_core.proofs.TreeKept.{member, IsTree-added}
use Rattle.tree_core.proofs.tree.Tree.add.Goals as goal
use Rattle.tree_core.proofs.tree.Tree.add.Goals.{After-put_counted, in-Ok, in-Err}

pub free_number-id-requires-clause-low : goal.free_number-id-requires-clause-low
free_number-id-requires-clause-low c = (member c.self.invariant c.self.view_is c.args.client c.requires).low

pub free_number-id-requires-clause-high : goal.free_number-id-requires-clause-high
free_number-id-requires-clause-high c = (member c.self.invariant c.self.view_is c.args.client c.requires).high

pub free_number-id-requires-clause-room : goal.free_number-id-requires-clause-room
free_number-id-requires-clause-room c = (no_refusal (rows_in c.self.inside.store) c.args.client c.args.name c.args.kind (sym c.in-None.ensures)).1

pub add_refusal-requires-clause-client : goal.add_refusal-requires-clause-client
add_refusal-requires-clause-client c = (member c.self.invariant c.self.view_is c.args.client c.requires).below

pub start-requires : goal.start-requires
start-requires c = (member c.self.invariant c.self.view_is c.args.client c.requires).below

pub put_counted-requires-clause-new_name : goal.put_counted-requires-clause-new_name
put_counted-requires-clause-new_name c =
    let free : row_named (rows_in c.self.inside.store) c.args.client c.args.name ≡ None = (no_refusal (rows_in c.self.inside.store) c.args.client c.args.name c.args.kind (sym c.in-None.ensures)).0 in
    is_none_of (id_named (nodes c.self.inside.store) c.args.client c.args.name) (named_live c.self.inside.store c.args.client c.args.name ∙ ap is_some free)

kept : (c : After-put_counted) → IsTree (record { clients = c.self.inside.clients.items; names = c.put_counted.new.names; entries = c.put_counted.new.store; cells = c.self.inside.cells; counts = c.put_counted.new.counts; kept = c.self.inside.places })
kept c =
    let joined = (member c.self.invariant c.self.view_is c.args.client c.requires).joined in
    let P : List (ℕ × Row) → Type 0 = λ es. IsIndexed c.put_counted.new.names (nodes es) → AreCounts c.put_counted.new.counts (rows_in es) → IsTree (record { clients = c.self.inside.clients.items; names = c.put_counted.new.names; entries = es; cells = c.self.inside.cells; counts = c.put_counted.new.counts; kept = c.self.inside.places }) in
    let either = IsTree-added c.self.invariant (is_ok c.put_counted.result) c.put_counted.new.names c.put_counted.new.counts c.free_number-id.result c.args.client c.args.name c.args.kind c.free_number-id.ensures.free (sym c.in-None.ensures) c.free_number-id.ensures.own joined in
    let parts : P c.put_counted.new.store = subst P (sym c.put_counted.ensures.rows) either in
    parts c.put_counted.ensures.indexed c.put_counted.ensures.counted

pub invariant_of-self : goal.invariant_of-self
invariant_of-self c = kept (goal.at.invariant_of-self c).After-put_counted

pub returns-clause-valid : goal.returns-clause-valid
returns-clause-valid c = (kept (goal.at.returns-clause-valid c).After-put_counted).widgets

pub returns-clause-kept : goal.returns-clause-kept
returns-clause-kept c = λ other live.
    let L : Widgets → Type 0 = λ w. is_some (row_at w.entries other) ≡ true in
    let old : is_some (row_at c.self.inside.store other) ≡ true = subst L (sym c.self.view_is) live in
    rw c.put_counted.ensures.rows (live-maybe_push (is_ok c.put_counted.result) c.self.inside.store c.free_number-id.result (new_row c.args.client c.args.name c.args.kind) other old)

pub returns-clause-live : goal.returns-clause-live
returns-clause-live c =
    let row = new_row c.args.client c.args.name c.args.kind in
    elim c.match-put_counted.branch [
      | in-Ok w ↦ rw w.result-is (rw w.in-Ok.ensures.rows (live-last c.self.inside.store c.free_number-id.result row))
      | in-Err w ↦ rw w.result-is tt
    ]

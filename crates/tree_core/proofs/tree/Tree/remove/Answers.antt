use Rattle.std.proofs.Common.{◌≡◌, ℕ, List, Bool, true, false, cond, Some, None, is_some, refl, sym, ap, ◌∙◌, subst}
use Rattle.std.specs.Cmp.{nat_eq_equiv}
use Rattle.std.specs.Option.{option_map}
use Rattle.widget_model.specs.Rows.{Row}
use Rattle.widget_model.specs.Kinds.{counts_with}
use Rattle.widget_model.specs.Trees.{is_used}
use Rattle.widget_model.specs.Widgets.{Widgets, row_at, nodes, without_row}
use Rattle.row_store.specs.Index.{IsIndexed}
use Rattle.row_store.proofs.CountsLemmas.{has_one}
use Rattle.row_store.proofs.UnderNumbers.{row_at-without_row}
use Rattle.widget_model.specs.Widgets.{rows_in}
use Rattle.tree_core.specs.Kept.{IsTree}
use Rattle.tree_core.proofs.TreeKept.{client-below, slot_made, IsTree-without}
use Rattle.tree_core.proofs.tree.Tree.remove.Goals as goal
use Rattle.tree_core.proofs.tree.Tree.remove.Goals.{After-put}

pub lose-requires-clause-client : goal.lose-requires-clause-client
lose-requires-clause-client c = rw c.client-client.ensures (client-below c.self.invariant c.args.id.key c.row-row.result.now c.row-row.ensures)

pub lose-requires-clause-any : goal.lose-requires-clause-any
lose-requires-clause-any c =
    let row = c.row-row.result.now in
    let below = client-below c.self.invariant c.args.id.key row c.row-row.ensures in
    rw c.client-client.ensures (has_one c.self.inside.counts c.self.inside.store c.args.id.key row None below c.self.invariant.widgets.numbered.own_numbers c.row-row.ensures refl c.self.invariant.counted)

pub lose-requires-clause-alike : goal.lose-requires-clause-alike
lose-requires-clause-alike c = λ alike.
    let row = c.row-row.result.now in
    let below = client-below c.self.invariant c.args.id.key row c.row-row.ensures in
    let passes : counts_with c.kind-kind.result row.kind ≡ true = rw (← c.kind-kind.ensures) alike in
    rw c.client-client.ensures (has_one c.self.inside.counts c.self.inside.store c.args.id.key row (Some c.kind-kind.result) below c.self.invariant.widgets.numbered.own_numbers c.row-row.ensures passes c.self.invariant.counted)

pub put-requires : goal.put-requires
put-requires c = slot_made c.self.invariant c.args.id.key c.row-row.result.now c.row-row.ensures

kept : (c : After-put) → IsTree (record { clients = c.self.inside.clients.items; names = c.take_out.new.names; entries = c.take_out.new.store; cells = c.self.inside.cells; counts = c.lose.new.self; kept = c.put.new.self })
kept c =
    let I : List (ℕ × Row) → Type 0 = λ es. IsIndexed c.take_out.new.names (nodes es) in
    let row = c.row-row.result.now in
    let answer : Some (is_used (rows_in c.self.inside.store) row) ≡ Some c.is_used.result = ap (option_map (is_used (rows_in c.self.inside.store))) (sym c.row-row.ensures) ∙ c.is_used.ensures in
    let unused : is_used (rows_in c.self.inside.store) row ≡ false = let same : is_used (rows_in c.self.inside.store) row ≡ c.is_used.result = cc in same ∙ c.if-is_used.false in
    let indexed : IsIndexed c.take_out.new.names (nodes (without_row c.args.id.key c.self.inside.store)) = subst I c.take_out.ensures.rows c.take_out.ensures.indexed in
    rw (c.take_out.ensures.rows, c.lose.ensures, c.client-client.ensures, c.kind-kind.ensures) (IsTree-without c.self.invariant c.args.id.key row c.row-row.ensures c.take_out.new.names c.put.new.self unused indexed c.put.ensures.slots c.put.ensures.made)

pub invariant_of-self : goal.invariant_of-self
invariant_of-self c = kept (goal.at.invariant_of-self c).After-put

pub returns-clause-valid : goal.returns-clause-valid
returns-clause-valid c = (kept (goal.at.returns-clause-valid c).After-put).widgets

pub returns-clause-others : goal.returns-clause-others
returns-clause-others c = λ other apart live.
    let L : Widgets → Type 0 = λ w. is_some (row_at w.entries other) ≡ true in
    let old : is_some (row_at c.self.inside.store other) ≡ true = subst L (sym c.self.view_is) live in
    let same : row_at c.take_out.new.store other ≡ row_at c.self.inside.store other = ap (λ (es : List (ℕ × Row)). row_at es other) c.take_out.ensures.rows ∙ row_at-without_row c.self.inside.store c.args.id.key other ∙ ap (λ (b : Bool). cond b None (row_at c.self.inside.store other)) (nat_eq_equiv.symm c.args.id.key other ∙ apart) in
    ap is_some same ∙ old

use Rattle.std.proofs.Common.{◌≡◌, ℕ, List, true, Option, Some, None, is_some, sym}
use Rattle.std.specs.Option.{option_and_then}
use Rattle.widget_model.specs.Rows.{Row}
use Rattle.widget_model.specs.Nodes.{id_named}
use Rattle.widget_model.specs.Widgets.{nodes, row_at}
use Rattle.widget_model.proofs.Naming.{row_at-named}
use Rattle.tree_core.proofs.tree.Tree.link.Goals as goal

linked-live : (es : List (ℕ × Row)) (o : Option Row) (key : ℕ) → option_and_then (λ (row : Row). option_and_then (id_named (nodes es) row.client) row.link) o ≡ Some key → is_some (row_at es key) ≡ true
linked-live es None key h = absurd (cc)
linked-live es (Some row) key h = by row.link h
  where
    by : (link : Option (List ℕ)) → option_and_then (id_named (nodes es) row.client) link ≡ Some key → is_some (row_at es key) ≡ true
    by None h = absurd (cc)
    by (Some name) h = row_at-named es row.client name key h

pub returns-in-Some-clause-live : goal.returns-in-Some-clause-live
returns-in-Some-clause-live c =
    let live = linked-live c.self.inside.store (row_at c.self.inside.store c.args.id.key) c.in-Some.key (sym c.in-Some.ensures) in
    rw (← c.self.view_is) live

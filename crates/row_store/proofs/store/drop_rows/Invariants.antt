-- the rows under the numbers that were tried are gone
use Rattle.std.proofs.Common.{◌≡◌, ℕ}
use Rattle.std.specs.List.{filter}
use Rattle.widget_model.specs.Rows.{Row}
use Rattle.row_store.proofs.UnderNumbers.{is_left}
use Rattle.row_store.proofs.store.drop_rows.Given as goal

abbrev pub invariant-loop-id : goal.invariant-loop-id
invariant-loop-id l = l.store ≡ filter (λ (e : ℕ × Row). is_left l.first l.id e.0) l.initial.store

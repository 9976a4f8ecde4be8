-- the numbers that were tried are live
use Rattle.std.proofs.Common.{◌≡◌, ◌<◌, ◌+◌, ◌%◌, ℕ, true, is_some}
use Rattle.widget_model.specs.Widgets.{row_at}
use Rattle.tree_core.proofs.add.free_number.Given as goal

abbrev pub invariant-loop-k : goal.invariant-loop-k
invariant-loop-k l = (j : ℕ) → j < l.k → is_some (row_at l.store (l.first + (l.start + j) % 128)) ≡ true

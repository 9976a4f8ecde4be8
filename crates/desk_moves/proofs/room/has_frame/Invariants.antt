-- none of the numbers that were looked at names a Frame that is linked to the Variable
use Rattle.std.proofs.Common.{◌≡◌, ◌+◌, ◌<◌, ℕ, Some, false}
use Rattle.widget_model.specs.Rows.{Row}
use Rattle.widget_model.specs.Widgets.{row_at}
use Rattle.desk_moves.proofs.Frames.{is_frame_at}
use Rattle.desk_moves.proofs.room.has_frame.Given as goal

abbrev pub invariant-loop-k : goal.invariant-loop-k
invariant-loop-k l = (v : Row) → row_at l.tree.entries l.variable.key ≡ Some v → (j : ℕ) → j < l.k → is_frame_at l.tree.entries v (l.first + j) ≡ false

-- the cells that were looked at are empty
use Rattle.std.proofs.Common.{◌≡◌, ◌<◌, ◌+◌, ◌*◌, ℕ, None, get_or}
use Rattle.tree_core.proofs.going_down.has_child.Given as goal

abbrev pub invariant-loop-index : goal.invariant-loop-index
invariant-loop-index l = (k : ℕ) → k < l.index → get_or l.cells (l.id * 256 + k) None ≡ None

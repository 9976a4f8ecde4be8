-- what was read at each offset before is read still
use Rattle.std.proofs.Common.{◌≡◌, ◌≤◌, ℕ, None, get_or, length}
use Rattle.row_store.proofs.cells.lengthen.Given as goal

abbrev pub invariant-loop-offset : goal.invariant-loop-offset
invariant-loop-offset l = ((at : ℕ) → get_or l.children.items at None ≡ get_or l.initial.children.items at None) × (length l.initial.children.items ≤ length l.children.items) × (l.offset ≤ length l.children.items)

-- the places up to this one are empty, and the others as they were
use Rattle.std.proofs.Common.{◌≡◌, ◌≤◌, ◌<◌, ℕ, None, get_or}
use Rattle.row_store.proofs.cells.empty_cells.Given as goal

abbrev pub invariant-loop-offset : goal.invariant-loop-offset
invariant-loop-offset l = ((at : ℕ) → l.start ≤ at → at < l.offset → get_or l.children at None ≡ None) × ((at : ℕ) → at < l.start → get_or l.children at None ≡ get_or l.initial.children at None) × ((at : ℕ) → l.offset ≤ at → get_or l.children at None ≡ get_or l.initial.children at None)

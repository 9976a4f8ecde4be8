use Rattle.std.proofs.Common.{take}
use Rattle.drawing_core.specs.Marking.{Marked, is_given_of}
use Rattle.drawing_core.proofs.marking.mark_numbers.Given as goal

-- what the numbers so far give is marked
abbrev pub invariant-loop-key : goal.invariant-loop-key
invariant-loop-key l = Marked (is_given_of l.before l.after l.touched.looks.items (take l.key-index l.numbers)) l.initial.queue l.queue

use Rattle.std.proofs.Common.{◌≡◌, take}
use Rattle.input_core.proofs.edits.bytes_of.Given as goal

abbrev pub invariant-loop-byte : goal.invariant-loop-byte
invariant-loop-byte l = l.bytes.items ≡ take l.byte-index l.text

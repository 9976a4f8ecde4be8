use Rattle.std.proofs.Common.{◌≡◌, ◌++◌, take}
use Rattle.look_data.proofs.same.put_bytes.Given as goal

abbrev pub invariant-loop-byte : goal.invariant-loop-byte
invariant-loop-byte l = l.shown.items ≡ l.initial.shown.items ++ take l.byte-index l.bytes

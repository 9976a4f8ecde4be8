-- the bytes so far are put, and the others have room and print
use Rattle.std.proofs.Common.{◌≡◌, ◌++◌, take}
use Rattle.cmd_print.proofs.putting.put_bytes.Given as goal

abbrev pub invariant-loop-byte : goal.invariant-loop-byte
invariant-loop-byte g l = l.text.bytes ≡ l.initial.text.bytes ++ take l.byte-index l.bytes

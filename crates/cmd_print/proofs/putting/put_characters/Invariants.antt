-- the characters so far are put
use Rattle.std.proofs.Common.{◌≡◌, ◌+◌, ◌*◌, ◌≤◌, ◌++◌, take, length}
use Rattle.std.specs.List.{flat_map}
use Rattle.cmd_words.specs.Productions.{character}
use Rattle.cmd_print.proofs.putting.put_characters.Given as goal

abbrev pub invariant-loop-byte : goal.invariant-loop-byte
invariant-loop-byte g l = record {
  put : l.text.bytes ≡ l.initial.text.bytes ++ flat_map character (take l.byte-index l.bytes);
  short : length l.text.bytes ≤ length l.initial.text.bytes + 2 * l.byte-index;
}

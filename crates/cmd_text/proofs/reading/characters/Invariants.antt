-- the characters so far fit and print, and what is left is read as the whole is
use Rattle.std.proofs.Common.{◌≡◌, ◌-◌, ◌≤◌, true, [], length}
use Rattle.std.specs.List.{list_all}
use Rattle.kind_core.specs.Bytes.{is_printable}
use Rattle.cmd_text.specs.ReadingOptions.{chars_at}
use Rattle.cmd_text.proofs.reading.characters.Given as goal

abbrev pub invariant-loop-rest : goal.invariant-loop-rest
invariant-loop-rest l = record {
  few : length l.front.items ≤ 64;
  prints : list_all is_printable l.front.items ≡ true;
  reads : chars_at (64 - length l.front.items) l.front.items l.rest ≡ chars_at 64 [] l.bytes;
}

abbrev pub decreases-loop-rest : goal.decreases-loop-rest
decreases-loop-rest l = 64 - length l.front.items

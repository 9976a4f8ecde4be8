-- what is left is read as the whole is
use Rattle.std.proofs.Common.{◌≡◌, ◌-◌, ◌≤◌, length}
use Rattle.cmd_text.specs.ReadingOptions.{more_at}
use Rattle.cmd_text.proofs.optioning.more.Given as goal

abbrev pub invariant-loop-rest : goal.invariant-loop-rest
invariant-loop-rest g l = record {
  few : length l.list ≤ 8;
  reads : more_at g.T.Readable.one_at (8 - length l.list) l.list l.rest ≡ more_at g.T.Readable.one_at (8 - length l.fn.list) l.fn.list l.bytes;
}

abbrev pub decreases-loop-rest : goal.decreases-loop-rest
decreases-loop-rest g l = 8 - length l.list

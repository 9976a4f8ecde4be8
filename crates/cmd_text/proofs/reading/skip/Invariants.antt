-- what is left is skipped to the same place
use Rattle.std.proofs.Common.{◌≡◌, length}
use Rattle.cmd_text.specs.Reading.{skip_at}
use Rattle.cmd_text.proofs.reading.skip.Given as goal

abbrev pub invariant-loop-rest : goal.invariant-loop-rest
invariant-loop-rest l = skip_at l.rest ≡ skip_at l.bytes

abbrev pub decreases-loop-rest : goal.decreases-loop-rest
decreases-loop-rest l = length l.rest

-- the word gets shorter
use Rattle.std.proofs.Common.{length}
use Rattle.cmd_text.proofs.reading.+expect.Given as goal

abbrev pub decreases-expect : goal.decreases-expect
decreases-expect l = length l.word.now

-- the limit gets lower
use Rattle.cmd_text.proofs.reading.+run.Given as goal

abbrev pub decreases-run : goal.decreases-run
decreases-run l = l.limit

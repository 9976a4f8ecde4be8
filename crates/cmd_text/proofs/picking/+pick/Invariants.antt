-- fewer words are left
use Rattle.std.proofs.Common.{length}
use Rattle.cmd_text.proofs.picking.+pick.Given as goal

abbrev pub decreases-pick : goal.decreases-pick
decreases-pick g l = length l.all.now

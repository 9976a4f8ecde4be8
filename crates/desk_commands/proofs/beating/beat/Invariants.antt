-- the films that were looked at are beaten
use Rattle.desk_commands.proofs.Beats.{BeatenTo}
use Rattle.desk_commands.proofs.beating.beat.Given as goal

abbrev pub invariant-loop-i : goal.invariant-loop-i
invariant-loop-i l = BeatenTo l.initial.tree l.tree l.roster.entries l.i l.bands.items

use Rattle.clap.specs.Words.{app_of}
use Rattle.command_line.proofs.Additions.{verb_added}
use Rattle.command_line.proofs.building.command_of.Goals as goal

pub loop-row-preserved : goal.loop-row-preserved
loop-row-preserved c =
    verb_added (app_of c.loop-row.command) (app_of c.in_ok-command.command) (app_of c.in_ok-subcommand.subcommand) c.args.rows.now c.loop-row.row-index _
    c.loop-row.invariant c.loop-row-test.true c.in_ok-subcommand.ensures.app (c.in_ok-command.ensures.shape c.in_ok-subcommand.ensures.local)

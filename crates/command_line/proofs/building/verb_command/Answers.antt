use Rattle.std.proofs.Common.{◌∙◌}
use Rattle.clap.specs.Words.{app_of}
use Rattle.command_line.proofs.Additions.{option_added}
use Rattle.command_line.proofs.building.verb_command.Goals as goal

pub loop-option-preserved : goal.loop-option-preserved
loop-option-preserved c = (
  option_added (app_of c.loop-option.command) (app_of c.in_ok-command.command) c.args.row.name.now c.args.row.options.now c.loop-option.option-index _ c.loop-option.invariant.0 c.loop-option-test.true c.in_ok-command.ensures.app,
  c.in_ok-command.ensures.local ∙ c.loop-option.invariant.1,
)

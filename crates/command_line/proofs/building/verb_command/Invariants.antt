use Rattle.std.proofs.Common.{◌≡◌, false, take}
use Rattle.std.specs.Prelude.{map}
use Rattle.clap.specs.Words.{app_of}
use Rattle.clap.specs.declared.builder.command.Command.TheViews.{out-Command as fields_of}
use Rattle.command_line.specs.Rows.{ranged_of}
use Rattle.command_line.specs.Apps.{verb_app}
use Rattle.command_line.proofs.building.verb_command.Given as goal

abbrev pub invariant-loop-option : goal.invariant-loop-option
invariant-loop-option l = (app_of l.command ≡ verb_app (record { name = l.row.name.now; options = map ranged_of (take l.option-index l.row.options.now) }))
    × ((fields_of l.command).has_globals ≡ false)

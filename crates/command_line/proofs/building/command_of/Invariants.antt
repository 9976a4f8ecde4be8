use Rattle.std.proofs.Common.{◌≡◌, take}
use Rattle.std.specs.Prelude.{map}
use Rattle.clap.specs.Words.{app_of}
use Rattle.command_line.specs.Program.{program}
use Rattle.command_line.specs.Rows.{verb_of}
use Rattle.command_line.proofs.building.command_of.Given as goal

abbrev pub invariant-loop-row : goal.invariant-loop-row
invariant-loop-row l = app_of l.command ≡ program (map verb_of (take l.row-index l.rows))

use Rattle.std.proofs.Common.{◌≡◌, drop}
use Rattle.std.specs.Prelude.{map}
use Rattle.command_line.specs.Table.{verb_named}
use Rattle.command_line.specs.Rows.{verb_of}
use Rattle.command_line.proofs.matched.row_named.Given as goal

abbrev pub invariant-loop-row : goal.invariant-loop-row
invariant-loop-row l = verb_named (map verb_of (drop l.row-index l.rows)) l.name ≡ verb_named (map verb_of l.rows) l.name

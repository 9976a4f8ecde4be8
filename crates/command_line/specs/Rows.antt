-- Inner words of the proofs: the code's rows as those of the table.
use Rattle.std.specs.Prelude.{map}
use Rattle.command_line.specs.declared.table.NumberOption.{NumberOption}
use Rattle.command_line.specs.declared.table.CommandRow.{CommandRow}
use Rattle.command_line.specs.Table.{Ranged, Verb}

abbrev pub ranged_of : NumberOption → Ranged
ranged_of o = record { name = o.name.now; least = o.least; greatest = o.greatest }

abbrev pub verb_of : CommandRow → Verb
verb_of row = record { name = row.name.now; options = map ranged_of row.options.now }

-- the others' entries are as they were
use Rattle.std.proofs.Common.{◌≡◌, length}
use Rattle.std.specs.List.{filter}
use Rattle.widget_model.specs.Widgets.{nodes}
use Rattle.desk_commands.specs.Parts.{is_others_entry, AreListed}
use Rattle.desk_commands.proofs.admission.dismiss.Given as goal

abbrev pub invariant-loop-key : goal.invariant-loop-key
invariant-loop-key l = record {
  others : filter (is_others_entry (nodes l.tree.entries) l.client) l.roster.entries ≡ filter (is_others_entry (nodes l.tree.entries) l.client) l.initial.roster.entries;
  limit : l.roster.limit ≡ l.initial.roster.limit;
  listed : AreListed l.tree.entries l.roster;
}

abbrev pub decreases-loop-key : goal.decreases-loop-key
decreases-loop-key l = length l.roster.entries

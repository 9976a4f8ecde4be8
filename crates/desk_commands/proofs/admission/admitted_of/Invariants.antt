-- the entries that were looked at are others'
use Rattle.std.proofs.Common.{◌≡◌, drop}
use Rattle.std.specs.List.{list_all}
use Rattle.widget_model.specs.Widgets.{nodes}
use Rattle.desk_commands.specs.Parts.{is_others_entry}
use Rattle.desk_commands.proofs.admission.admitted_of.Given as goal

abbrev pub invariant-loop-i : goal.invariant-loop-i
invariant-loop-i l = list_all (is_others_entry (nodes l.tree.entries) l.client) l.roster.entries ≡ list_all (is_others_entry (nodes l.tree.entries) l.client) (drop l.i l.roster.entries)

use Rattle.desk_layout.proofs.Layouts.{emptied-now, laid-all}
use Rattle.desk_layout.proofs.laying.lay_out.Goals as goal

pub lay_windows-requires-clause-bare : goal.lay_windows-requires-clause-bare
lay_windows-requires-clause-bare c = emptied-now c.args.client c.args.tree.now c.empty_places.new.tree c.empty_places.ensures

pub returns : goal.returns
returns c = laid-all c.args.client c.args.tree.now c.empty_places.new.tree c.lay_windows.new.tree c.requires.valid c.empty_places.ensures c.lay_windows.ensures

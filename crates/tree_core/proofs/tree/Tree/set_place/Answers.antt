use Rattle.tree_core.proofs.TreeKept.{live_row, slot_made, placed_there, IsTree-placed}
use Rattle.tree_core.proofs.tree.Tree.set_place.Goals as goal

pub put-requires : goal.put-requires
put-requires c =
    let found = live_row c.self.view_is c.args.id.key c.requires in
    slot_made c.self.invariant c.args.id.key found.0 found.1

pub returns-clause-now : goal.returns-clause-now
returns-clause-now c =
    let found = live_row c.self.view_is c.args.id.key c.requires in
    rw c.put.ensures.slots (placed_there c.self.invariant c.args.id.key found.0 found.1 c.args.place)

pub invariant_of-self : goal.invariant_of-self
invariant_of-self c =
    let found = live_row c.self.view_is c.args.id.key c.requires in
    IsTree-placed c.self.invariant c.args.id.key found.0 found.1 c.args.place c.put.new.self c.put.ensures.slots c.put.ensures.made

pub returns-clause-valid : goal.returns-clause-valid
returns-clause-valid c =
    let found = live_row c.self.view_is c.args.id.key c.requires in
    (IsTree-placed c.self.invariant c.args.id.key found.0 found.1 c.args.place c.put.new.self c.put.ensures.slots c.put.ensures.made).widgets

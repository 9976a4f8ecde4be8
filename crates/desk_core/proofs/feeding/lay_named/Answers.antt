use Rattle.std.proofs.Common.{◌||◌, Option, subst}
use Rattle.tree_core.specs.declared.id.Id.{Id}
use Rattle.desk_core.specs.Feeding.{is_named, HavePlacesBut}
use Rattle.desk_core.proofs.FedPlaces.{owner-range, due-laid}
use Rattle.desk_core.proofs.feeding.lay_named.Goals as goal

pub settle-requires-clause-low : goal.settle-requires-clause-low
settle-requires-clause-low c = (owner-range c.args.tree.now c.in-Some.id.key c.owner-client.result c.requires.valid c.owner-client.ensures.owner).0

pub settle-requires-clause-high : goal.settle-requires-clause-high
settle-requires-clause-high c = (owner-range c.args.tree.now c.in-Some.id.key c.owner-client.result c.requires.valid c.owner-client.ensures.owner).1

pub returns-in-Some-clause-due : goal.returns-in-Some-clause-due
returns-in-Some-clause-due c = λ rest due.
    let D : Option Id → Type 0 = λ named. HavePlacesBut (λ client. is_named c.args.tree.now.entries named client || rest client) c.args.tree.now in
    due-laid c.owner-client.result c.in-Some.id c.args.tree.now c.settle.new.tree rest c.owner-client.ensures.owner (owner-range c.args.tree.now c.in-Some.id.key c.owner-client.result c.requires.valid c.owner-client.ensures.owner).0 c.requires.valid c.settle.ensures
    (subst D c.in-Some.is due)

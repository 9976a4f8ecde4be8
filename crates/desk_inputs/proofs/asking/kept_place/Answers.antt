use Rattle.std.proofs.Common.{sym}
use Rattle.desk_inputs.proofs.AskedPlaces.{place-kept, place-there, place-range}
use Rattle.desk_inputs.proofs.asking.kept_place.Goals as goal

pub unreachable-requires : goal.unreachable-requires
unreachable-requires c = place-there c.args.tree.now c.args.id c.requires.live c.requires.placed c.requires.window (sym c.in-None.ensures.place)

pub returns-clause-place : goal.returns-clause-place
returns-clause-place c = λ scene same. place-kept c.args.tree.now c.args.id c.in-Some.place c.requires.widgets c.requires.live c.requires.placed c.requires.window (sym c.in-Some.ensures.place) scene same

pub returns-clause-range : goal.returns-clause-range
returns-clause-range c = place-range c.args.tree.now c.args.id c.in-Some.place c.requires.widgets c.requires.live c.requires.placed c.requires.window (sym c.in-Some.ensures.place)

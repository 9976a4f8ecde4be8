use Rattle.desk_inputs.proofs.GivenValues.{HasRows-set, never-refused}
use Rattle.desk_inputs.proofs.values.set_value.Goals as goal

pub unreachable-requires : goal.unreachable-requires
unreachable-requires c = never-refused c.args.tree.now c.args.id c.args.attr c.args.value.now c.in-Err.field-0 c.requires.valid c.requires.live c.requires.taken c.in-Err.ensures.answer

pub returns-clause-rows : goal.returns-clause-rows
returns-clause-rows c = HasRows-set c.args.tree.now c.set_attr.new.self c.args.id c.args.attr c.args.value.now c.requires.valid c.requires.live c.in-Ok.ensures.ok

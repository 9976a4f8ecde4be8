use Rattle.std.proofs.Common.{refl, sym}
use Rattle.widget_model.proofs.Naming.{row_named-none}
use Rattle.desk_commands.proofs.Effects.{is_found}
use Rattle.desk_commands.proofs.lookup.find.Goals as goal

pub returns-in-Some-clause-found : goal.returns-in-Some-clause-found
returns-in-Some-clause-found c =
    is_found c.args.tree.now c.args.client c.args.name.now c.in-Some.id.key c.kind.result c.kind.ensures.valid (sym c.in-Some.ensures.found) c.kind.ensures.kind

pub returns-in-None-clause-found : goal.returns-in-None-clause-found
returns-in-None-clause-found c = (refl, row_named-none c.args.tree.now.entries c.args.client c.args.name.now (sym c.in-None.ensures.found))

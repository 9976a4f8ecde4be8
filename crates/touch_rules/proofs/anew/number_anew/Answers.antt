use Rattle.std.proofs.Common.{true, false}
use Rattle.std.specs.Option.{option_copied}
use Rattle.touch_rules.proofs.AnewLemmas.{anew-there}
use Rattle.touch_rules.proofs.anew.number_anew.Goals as goal

pub returns-then-differs-clause-anew : goal.returns-then-differs-clause-anew
returns-then-differs-clause-anew c = anew-there c.args.tree.now c.args.client c.args.command.now c.args.payload.now c.in-Some.name.now c.in-Some-find.id.key (option_copied c.film.result) true c.film.ensures.valid c.in-Some.ensures c.in-Some-find.ensures.found c.film.ensures.film c.if-differs.ensures

pub returns-clause-anew : goal.returns-clause-anew
returns-clause-anew c = anew-there c.args.tree.now c.args.client c.args.command.now c.args.payload.now c.in-Some.name.now c.in-Some-find.id.key (option_copied c.film.result) false c.film.ensures.valid c.in-Some.ensures c.in-Some-find.ensures.found c.film.ensures.film c.if-differs.ensures

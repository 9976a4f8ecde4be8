use Rattle.std.proofs.Common.{rules, arith, ◌≤◌, [], length}
use Rattle.turnstile.proofs.Together.{as_many, all_tally, all_whole}
use Rattle.turnstile.proofs.turnstile.Turnstile.close.Goals as goal

pub into_value-requires-clause-whole : goal.into_value-requires-clause-whole
into_value-requires-clause-whole g c =
    let enough : c.args.self.made ≤ length c.args.passes.items = first_of (search rules, omega arith) in
    as_many g.V.Kept.entries g.V.Kept.number c.args.self c.join_all-all.result c.args.passes.items [] c.requires.own c.join_all-all.ensures.own c.join_all-all.ensures.parts enough

pub returns-clause-tallies : goal.returns-clause-tallies
returns-clause-tallies g c =
    all_tally g.V.Kept.entries g.V.Kept.number c.args.self c.join_all-all.result c.args.passes.items (g.V.Kept.entries c.into_value.result) c.requires.own c.join_all-all.ensures.own c.join_all-all.ensures.parts c.into_value.ensures.tallies

pub returns-clause-whole : goal.returns-clause-whole
returns-clause-whole g c =
    all_whole g.V.Kept.entries g.V.Kept.number c.args.self c.join_all-all.result c.args.passes.items (g.V.Kept.entries c.into_value.result) c.requires.own c.join_all-all.ensures.own c.join_all-all.ensures.parts c.into_value.ensures.whole

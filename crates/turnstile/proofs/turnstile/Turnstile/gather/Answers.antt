use Rattle.std.proofs.Common.{rules, arith, ◌≤◌, [], length}
use Rattle.turnstile.proofs.Together.{as_many}
use Rattle.turnstile.proofs.turnstile.Turnstile.gather.Goals as goal

pub returns-clause-whole : goal.returns-clause-whole
returns-clause-whole g c =
    let enough : c.args.self.now.made ≤ length c.args.passes.items = first_of (search rules, omega arith) in
    as_many g.V.Kept.entries g.V.Kept.number c.args.self.now c.join_all.result c.args.passes.items [] c.requires.own c.join_all.ensures.own c.join_all.ensures.parts enough

use Rattle.std.proofs.Common.{rules}
use Rattle.turnstile.proofs.Joining.{joins}
use Rattle.turnstile.proofs.steps.join.Goals as goal

pub join_seat-requires : goal.join_seat-requires
join_seat-requires g c = (search rules, search rules, search rules, search rules, joins g.V.Kept.entries g.V.Kept.number _ _ _ _ _ _ c.requires.outside.0 c.requires.outside.1)

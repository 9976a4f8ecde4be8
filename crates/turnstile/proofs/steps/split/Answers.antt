use Rattle.std.proofs.Common.{rules}
use Rattle.turnstile.proofs.Joining.{splits_view}
use Rattle.turnstile.proofs.steps.split.Goals as goal

pub split_seat-requires : goal.split_seat-requires
split_seat-requires g c = (search rules, search rules, splits_view g.V.Kept.entries g.V.Kept.number _ _ _ _ _ _ c.requires.outside c.requires.second.2)

use Rattle.std.proofs.Common.{rules}
use mathlib.Core.Option.{none}
use Rattle.atomic_table.specs.Table.{step}
use Rattle.turnstile.proofs.Draws.{draws}
use Rattle.turnstile.proofs.steps.draw.Goals as goal

pub fetch_add-requires : goal.fetch_add-requires
fetch_add-requires g c = (search rules, search rules, draws g.V.Kept.entries g.V.Kept.number _ _ _ _ (step 1 0 1 0 none) c.args.seat.now.me c.requires.outside)

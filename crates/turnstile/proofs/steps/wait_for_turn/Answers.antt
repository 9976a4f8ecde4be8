use Rattle.std.proofs.Common.{rules, ap, ◌∙◌}
use mathlib.Core.Option.{none}
use Rattle.atomic_table.specs.Table.{step}
use Rattle.turnstile.specs.Steps.{Holder}
use Rattle.turnstile.proofs.Looking.{looks}
use Rattle.turnstile.proofs.steps.wait_for_turn.Goals as goal

pub load-turn-requires : goal.load-turn-requires
load-turn-requires g c = (
  search rules,
  search rules,
  looks g.V.Kept.entries g.V.Kept.number _ _ _ _ (step 1 1 0 0 none) c.loop.seat.me c.requires.waits.0
      (ap (λ (m : Holder g.row.V.Denot g.row.V-Entry.Denot). m.0.stage) c.loop.invariant.1 ∙ c.requires.waits.1) c.requires.table.2,
)

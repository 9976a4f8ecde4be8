use Rattle.std.proofs.Common.{◌+◌, length, get_or, arith, ◌==◌}
use Rattle.std.specs.Prelude.{if◌then◌else◌}
use Rattle.std.proofs.lemmas.List.FromFn.{fill_by_all}
use Rattle.grid_layout.proofs.spreading.give_last.Goals as goal

pub returns : goal.returns
returns c =
    let least = c.args.least.now in
    fill_by_all (λ i. get_or least i 0 + (if i + 1 == length least then c.args.extra else 0)) c.loop-i.out (length least) 0 c.loop-i.invariant.places (λ k h. c.loop-i.invariant.widths k (omega arith))
